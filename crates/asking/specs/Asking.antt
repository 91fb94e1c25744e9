-- One operation of a call: what follows it, what its answer leaves, and what is kept for roll-back.
use Rattle.std.specs.Prelude.{ℕ, ◌+◌, ◌<◌, ◌≤◌, ◌≡◌, Bool, true, false, List, [], length, drop, get_or, Ok, Err}
use Rattle.slices.specs.Pick.{pick}
use Rattle.wlan.specs.declared.BusOp.{BusOp}
use Rattle.wlan.specs.declared.Refusal.{Refusal}
use Rattle.definition.specs.Bus.{Bytes, Place, Ans, val, size_of}
use Rattle.definition.specs.Prog.{World, Prog}
use Rattle.definition.specs.Poll.{Result}
use Rattle.definition.specs.Run.{End, rolled_back}
use Rattle.answers.specs.Taken.{taken_of}
use Rattle.bus.specs.Op.{op_of}
use Rattle.device.specs.Meaning as device
use Rattle.device.specs.Meaning.{op_in, asking}
use Rattle.effects.specs.Answer.{answer_in, is_wait}
use Rattle.going.specs.Onward.{go, finish}
use Rattle.undo.specs.Undo.{Kept, records_kept, back_session, back_buf}
use Rattle.asking.specs.declared.Asked.{Asked}
use Rattle.asking.specs.declared.Back.{Back}
use Rattle.wlan.specs.Results.{BusAnswer, fault_at}
use Rattle.answers.specs.Taken.{Taken}
use Rattle.answers.specs.declared.NoAnswer.{NoAnswer}

abbrev pub asked_of : Back → Bool → ℕ → ℕ → ℕ → Asked
asked_of b f v p l = record { back = b; fault = f; value = v; pos = p; len = l }

unfoldable pub answer_of : Bool → ℕ → BusAnswer
answer_of true p = Err (fault_at p)
answer_of false v = Ok v

-- a fault's place is a byte
unfoldable pub SmallPlace : BusAnswer → Type 0
SmallPlace (Err f) = f.place < 256
SmallPlace (Ok v) = Unit {0}

-- the answer that x stands for; ws: the recording's words that begin with it
unfoldable pub answer_to : BusOp → BusAnswer → List ℕ → Ans
answer_to op x ws = pick (is_wait op) (val 0 []) (answer_in x ws)

-- on: what follows an answer
abbrev pub followed : World → List ℕ → ℕ → End → Back → End
followed e log len on Back.No = on
followed e log len on Back.Unrecorded = finish log len (rolled_back Refusal.Unrecorded e)
followed e log len on Back.WrongAnswer = finish log len (rolled_back Refusal.WrongAnswer e)
followed e log len on Back.LogFull = finish log len (rolled_back Refusal.LogFull e)

-- what follows; rest: the recording's words after the answer
unfoldable pub asked : World → BusOp → List ℕ → List ℕ → List ℕ → ℕ → (Ans → Prog Result) → Asked → End
asked e op ws rest log len k r = followed e log len (go e rest log len (k (answer_to op (answer_of r.fault r.value) ws))) r.back

-- b and c: the work buffer before and after
pub record Landed (op : BusOp) (ws : List ℕ) (b c : Bytes) (x : BusAnswer) : Type 0 where
  pub told : device.told (answer_to op x ws) ≡ x
  pub range : device.InRange op (answer_to op x ws)
  pub landed : c ≡ device.landing op (answer_to op x ws) b
  pub place : SmallPlace x

-- p: what holds where the call goes on, and q: where it does not
abbrev pub UnlessBack : Type 0 → Type 0 → Back → Type 0
UnlessBack p q Back.No = p
UnlessBack p q Back.Unrecorded = q
UnlessBack p q Back.WrongAnswer = q
UnlessBack p q Back.LogFull = q

unfoldable pub Left : BusOp → List ℕ → Bytes → Bytes → Asked → Type 0
Left op ws b c r = UnlessBack (Landed op ws b c (answer_of r.fault r.value)) (c ≡ b) r.back

-- the log grew, and holds what it is said to hold
unfoldable pub Grew : ℕ → ℕ → Asked → Type 0
Grew room len r = UnlessBack ((len < r.len) × (r.len ≤ room)) (Unit {0}) r.back

-- an operation that was asked
pub record Asks (op : BusOp) (rec log log' : List ℕ) (pos len : ℕ) (b c : Bytes) (r : Asked) : Type 0 where
  pub on : (e : World) (s : Place) (k : Ans → Prog Result) → asked e op (drop pos rec) (drop r.pos rec) log' r.len k r ≡ go e (drop pos rec) log len (asking (op_in op s b) k)
  pub left : Left op (drop pos rec) b c r
  pub grew : Grew (length log) len r

-- u and v: what is kept, before and after; put back it gives the same
pub record KeptOn (u v : List ℕ) (b c : Bytes) : Type 0 where
  pub kept : Kept v
  pub session : (s : List ℕ) → back_session v s ≡ back_session u s
  pub buf : back_buf v c ≡ back_buf u b
  pub records : records_kept v ≡ records_kept u

-- ---- the answer to an operation that stands in the log

-- n words are there, and the first of them is head
pub record Begins (rec : List ℕ) (pos n head : ℕ) : Type 0 where
  pub there : pos + n ≤ length rec
  pub first : get_or rec pos 0 ≡ head

-- the answer x was taken; p: the words that are taken with it
pub record Got (x : BusAnswer) (op : BusOp) (rec : List ℕ) (pos p : ℕ) : Type 0 where
  pub taken : Ok x ≡ taken_of (op_of op []) (drop pos rec)
  pub range : device.InRange op (answer_in x (drop pos rec))
  pub past : p ≡ pos + size_of (get_or rec pos 0)
  pub place : SmallPlace x

pub record HeardAs (x : BusAnswer) (op : BusOp) (rec : List ℕ) (pos len : ℕ) (r : Asked) : Type 0 where
  pub on : r.back ≡ Back.No
  pub answer : answer_of r.fault r.value ≡ x
  pub got : Got x op rec pos r.pos
  pub logged : r.len ≡ len

abbrev pub HeardBy : Type 0 → Taken → Back → Type 0
HeardBy got t Back.No = got
HeardBy got t Back.Unrecorded = Err NoAnswer.Unrecorded ≡ t
HeardBy got t Back.WrongAnswer = Err NoAnswer.Wrong ≡ t
HeardBy got t Back.LogFull = ⊥

pub record Heard (op : BusOp) (rec : List ℕ) (pos len : ℕ) (r : Asked) : Type 0 where
  pub told : HeardBy (Got (answer_of r.fault r.value) op rec pos r.pos) (taken_of (op_of op []) (drop pos rec)) r.back
  pub logged : r.len ≡ len

-- and what it left has landed
pub record HeardIn (op : BusOp) (rec : List ℕ) (pos len : ℕ) (b c : Bytes) (r : Asked) : Type 0 where
  pub heard : Heard op rec pos len r
  pub landed : UnlessBack (c ≡ device.landing op (answer_in (answer_of r.fault r.value) (drop pos rec)) b) (c ≡ b) r.back
