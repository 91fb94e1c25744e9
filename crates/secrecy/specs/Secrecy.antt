-- Demand 3, the passphrase never leaves: what is given, what is compared, what is asked, and the statement.
use Rattle.std.specs.Prelude.{◌≡◌, Bool, false, ◌&&◌, ◌||◌, List, [], ◌∷◌, ◌++◌, map, ℕ, ◌+◌, ◌≤◌, ltb, leb, length}
use Rattle.slices.specs.Pick.{pick}
use Rattle.slices.specs.Over.{over}
use Rattle.wlan.specs.State.{fresh}
use Rattle.wlan.specs.declared.ScanList.{ScanList}
use Rattle.wlan.specs.declared.State.{State}
use Rattle.definition.specs.Bus.{Bytes, Place, Op, log_of}
use Rattle.definition.specs.Prog.{World, world, Note}
use Rattle.definition.specs.Packet.{size_in}
use Rattle.definition.specs.Calls.{Call}
use Rattle.definition.specs.History.{Given, end_of, history_of, next}
use Rattle.wlan.specs.Results.{Outcome}

-- ---- what two runs are given

-- 'the same but for the bytes (not the lengths) of join passphrases'
pub data SameCall : Call → Call → Type 0 where
  same : {c : Call} → SameCall c c
  join : {auth : ℕ} {ssid p p' : Bytes} → length p ≡ length p' → SameCall (Call.wifi_connect auth ssid p) (Call.wifi_connect auth ssid p')

pub data Same : List Given → List Given → Type 0 where
  none : Same [] []
  more : {c c' : Call} {recording log : List ℕ} {output : Bytes} {gs gs' : List Given} → SameCall c c' → Same gs gs'
      → Same (record { call = c; recording = recording; log = log; output = output } ∷ gs) (record { call = c'; recording = recording; log = log; output = output } ∷ gs')

-- ---- what is compared

-- the bytes of a written packet that are not: those past its declared size, and the places where a passphrase was laid
unfoldable pub hidden : ℕ → Place → ℕ → Bool
hidden size secret i = leb size i || (leb secret.from i && ltb i (secret.from + secret.count))

-- a packet from its byte i on, the hidden bytes 0
unfoldable pub blotted : ℕ → Place → ℕ → Bytes → Bytes
blotted size secret i [] = []
blotted size secret i (x ∷ p) = pick (hidden size secret i) 0 x ∷ blotted size secret (i + 1) p

unfoldable pub blot : Op → Op
blot Op.read_interrupt = Op.read_interrupt
blot Op.read_status = Op.read_status
blot (Op.read_packet n) = Op.read_packet n
blot Op.read_clock = Op.read_clock
blot Op.read_tick = Op.read_tick
blot (Op.write_packet p secret) = Op.write_packet (blotted (size_in p) secret 0 p) secret
blot (Op.write_interrupt v) = Op.write_interrupt v
blot Op.frame_control = Op.frame_control
blot (Op.wait ns) = Op.wait ns

-- refusal and value, output bytes, scan list, every state field, log length and log
pub record Seen : Type 0 where
  pub outcome : Outcome
  pub output : Bytes
  pub list : ScanList
  pub st : State
  pub len : ℕ
  pub log : List ℕ

-- the log is the call's own but for the hidden bytes
unfoldable pub seen : Given → World → Seen
seen g w =
    let e = end_of g w in
    record {
      outcome = e.outcome;
      output = e.output;
      list = e.list;
      st = e.st;
      len = e.len;
      log = over g.log 0 (log_of (map blot (history_of g w).ops));
    }

unfoldable pub observed : List Given → World → List Seen
observed [] w = []
observed (g ∷ gs) w = seen g w ∷ observed gs (next g w)

-- the first run and the second are seen alike after each call
abbrev pub SeenAlike : List Given → List Given → World → Type 0
SeenAlike gs gs' w = observed gs w ≡ observed gs' w

-- ---- what is asked, of the first run alone

-- the notes of all calls, refused and rolled back ones too
unfoldable pub history : List Given → World → List Note
history [] w = []
history (g ∷ gs) w = (history_of g w).notes ++ history gs (next g w)

abbrev pub Every : (Note → Type 0) → List Note → Type 0
Every P [] = Unit {0}
Every P (n ∷ ns) = P n × Every P ns

-- 'no received packet with a valid complement declares more bytes than came'; with a wrong one it declares none
abbrev pub Came : Note → Type 0
Came (Note.received declared came) = declared ≤ came
Came (Note.advanced n) = Unit {0}
Came Note.spent = Unit {0}
Came (Note.key_laid frame reply) = Unit {0}

-- 'no frame and no stored reply waits when a passphrase is laid'
abbrev pub Idle : Note → Type 0
Idle (Note.received declared came) = Unit {0}
Idle (Note.advanced n) = Unit {0}
Idle Note.spent = Unit {0}
Idle (Note.key_laid frame reply) = (frame ≡ false) × (reply ≡ false)

-- ---- the statement

-- from a fresh state and any work buffer and scan list, two runs that are given the same but for passphrase bytes are seen alike
abbrev pub Secrecy : Type 0
Secrecy =
    (gs gs' : List Given) (b : Bytes) (l : ScanList) → Same gs gs' → Every Came (history gs (world fresh b l)) → Every Idle (history gs (world fresh b l))
    → SeenAlike gs gs' (world fresh b l)
