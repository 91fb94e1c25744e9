-- The premises can be met, and each is needed. The checker computes every session from the definition.
use mathlib.Core.Path.{◌≡◌, refl, ap, sym}
use mathlib.Core.Bool.{Bool, true, false, ◌&&◌, ◌||◌, not, true≢false}
use mathlib.Core.List.{List, [], ◌∷◌, ◌++◌, map}
use Prim.Native.Nat.{ℕ, zero, suc, ◌+◌, ◌-◌, ◌*◌}
use native.Mathlib.Omega.{arith}
use borrow.Author.Tests.{leb-true, not-true}
use lib.Dec.{leb, eqb}
use lib.ListN.{get_or, replicate}
use Rattle.slices.specs.Pick.{pick}
use Rattle.slices.specs.Le.{le32}
use Rattle.wlan.specs.Outcome.{refusal_of, value_of}
use Rattle.wlan.specs.State.{fresh}
use Rattle.wlan.specs.declared.ScanList.{ScanList}
use Rattle.definition.specs.Bus.{Bytes}
use Rattle.definition.specs.Prog.{World, world, Note}
use Rattle.definition.specs.Scan.{same_bytes}
use Rattle.definition.specs.Calls.{Call}
use Rattle.definition.specs.Player.{empty_list}
use Rattle.definition.specs.Open.{opened}
use Rattle.definition.specs.History.{Given, end_of, history_of, next}
use Rattle.definition.proofs.Recordings.{packet_of, interrupt, status, clock, tick, done, fault, coming, sent}
use Rattle.secrecy.specs.Secrecy.{same, join, Same, none, more, Seen, seen, observed, SeenAlike, history, Every, Came, Idle, hidden, blotted, blot}
use Rattle.secrecy.proofs.Secrecy.{secrecy}

-- ---- the premises as tests

-- the second premise, of a frame alone and of a reply alone
abbrev Frameless : Note → Type 0
Frameless (Note.received declared came) = Unit {0}
Frameless (Note.advanced n) = Unit {0}
Frameless Note.spent = Unit {0}
Frameless (Note.key_laid frame reply) = frame ≡ false

abbrev Replyless : Note → Type 0
Replyless (Note.received declared came) = Unit {0}
Replyless (Note.advanced n) = Unit {0}
Replyless Note.spent = Unit {0}
Replyless (Note.key_laid frame reply) = reply ≡ false

abbrev came? : Note → Bool
came? (Note.received declared came) = leb declared came
came? (Note.advanced n) = true
came? Note.spent = true
came? (Note.key_laid frame reply) = true

abbrev frameless? : Note → Bool
frameless? (Note.received declared came) = true
frameless? (Note.advanced n) = true
frameless? Note.spent = true
frameless? (Note.key_laid frame reply) = not frame

abbrev replyless? : Note → Bool
replyless? (Note.received declared came) = true
replyless? (Note.advanced n) = true
replyless? Note.spent = true
replyless? (Note.key_laid frame reply) = not reply

came-is : (n : Note) → came? n ≡ true → Came n
came-is (Note.received declared came) e = leb-true declared came e
came-is (Note.advanced n) e = tt
came-is Note.spent e = tt
came-is (Note.key_laid frame reply) e = tt

frameless-is : (n : Note) → frameless? n ≡ true → Frameless n
frameless-is (Note.received declared came) e = tt
frameless-is (Note.advanced n) e = tt
frameless-is Note.spent e = tt
frameless-is (Note.key_laid frame reply) e = not-true frame e

replyless-is : (n : Note) → replyless? n ≡ true → Replyless n
replyless-is (Note.received declared came) e = tt
replyless-is (Note.advanced n) e = tt
replyless-is Note.spent e = tt
replyless-is (Note.key_laid frame reply) e = not-true reply e

abbrev every : (Note → Bool) → List Note → Bool
every t [] = true
every t (n ∷ ns) = t n && every t ns

both : (a b : Bool) → (a && b) ≡ true → (a ≡ true) × (b ≡ true)
both true b e = (refl, e)
both false b e = absurd (true≢false (sym e))

every-is : (P : Note → Type 0) (t : Note → Bool) → ((n : Note) → t n ≡ true → P n) → (ns : List Note) → every t ns ≡ true → Every P ns
every-is P t f [] e = tt
every-is P t f (n ∷ ns) e =
    let h = both (t n) (every t ns) e in
    (f n h.0, every-is P t f ns h.1)

-- two of them together
every-both : (P Q R : Note → Type 0) → ((n : Note) → P n → Q n → R n) → (ns : List Note) → Every P ns → Every Q ns → Every R ns
every-both P Q R f [] p q = tt
every-both P Q R f (n ∷ ns) p q = (f n p.0 q.0, every-both P Q R f ns p.1 q.1)

idle : (n : Note) → Frameless n → Replyless n → Idle n
idle (Note.received declared came) f r = tt
idle (Note.advanced n) f r = tt
idle Note.spent f r = tt
idle (Note.key_laid frame reply) f r = (f, r)

-- ---- packets and recordings

-- an ioctl header with an id and status 0
abbrev control : ℕ → Bytes
control id = le32 0 ++ (le32 0 ++ (le32 (id * 65536) ++ le32 0))

-- a reply to id n, with a flow; it brings one more credit
abbrev replied : ℕ → ℕ → List ℕ
replied n flow = clock 0 ++ (clock 0 ++ coming (packet_of 28 0 12 flow (n + 1) (control n)))

-- no reply in time
abbrev late : List ℕ
late = clock 0 ++ clock 500000

-- exchanges n .. n + k - 1, then the rest
unfoldable exchanges : ℕ → ℕ → List ℕ → List ℕ
exchanges n zero rest = rest
exchanges n (suc k) rest = sent ++ (replied n 0 ++ exchanges (n + 1) k rest)

-- ---- sessions, each for a passphrase

abbrev given : Call → List ℕ → Given
given c recording = record { call = c; recording = recording; log = replicate 512 0; output = replicate 64 0 }

abbrev joining : ℕ → Bytes → List ℕ → Given
joining auth p recording = given (Call.wifi_connect auth (65 ∷ []) p) recording

abbrev polling : List ℕ → Given
polling recording = given Call.wifi_poll recording

abbrev taking : Given
taking = given (Call.get_rx_buf 64) []

-- a first poll, which sets the good-packet mark
abbrev marking : Given
marking = polling (interrupt 32 ++ (done ++ coming (packet_of 12 3 12 0 1 [])))

-- a data packet of the declared size: its frame begins at byte 16
abbrev framed : ℕ → Bytes → Bytes
framed size payload = packet_of size 2 12 0 1 (0 ∷ 0 ∷ 0 ∷ 0 ∷ payload)

start : World
start = world fresh (replicate 2048 0) empty_list

-- a whole join with k key requests; then a frame is polled and taken, and a word is got
whole : ℕ → ℕ → Bytes → List Given
whole auth k p =
    marking
    ∷ joining auth p (exchanges 1 (10 + k) [])
    ∷ polling (coming (framed 30 (replicate 14 7)))
    ∷ taking
    ∷ given (Call.get_ioctl 2 0) (exchanges (11 + k) 1 [])
    ∷ []

-- the key's reply is late; then a packet says that it has 60 bytes, and 20 came
too_short : Bytes → List Given
too_short p = marking ∷ joining 2 p (exchanges 1 5 (sent ++ late)) ∷ polling (coming (framed 60 (replicate 4 0))) ∷ taking ∷ []

-- a frame waits while the key is laid
frame_waiting : Bytes → List Given
frame_waiting p = marking ∷ polling (coming (framed 80 (replicate 64 0))) ∷ joining 2 p (exchanges 1 5 (sent ++ late)) ∷ taking ∷ []

-- a reply comes in the stall of the request before the key's, whose write and the key's are faulted
reply_waiting : Bytes → List Given
reply_waiting p =
    marking
    ∷ joining 2 p
    (exchanges 1 3
    (sent
    ++ (replied 4 1
    ++ (clock 0
    ++ (coming (packet_of 64 0 16 0 9 (replicate 4 0 ++ (control 5 ++ replicate 32 0)))
    ++ (status 0 ++ (status 32 ++ (fault 3 ++ (status 32 ++ fault 3)))))))))
    ∷ given (Call.get_ioctl 2 0) sent
    ∷ []

-- the key's reply is late; then a variable of 5 bytes is sent, after a packet has brought credit: its padding is 3 old bytes
padded : Bytes → List Given
padded p =
    marking
    ∷ joining 2 p (exchanges 1 5 (sent ++ late))
    ∷ given (Call.write_iovar 0 (97 ∷ []) (1 ∷ 2 ∷ 3 ∷ [])) (clock 0 ++ (coming (packet_of 16 2 12 0 9 (replicate 4 0)) ++ (sent ++ late)))
    ∷ []

-- the key's reply is late, and the network is left; then a poll's recording ends after an event that says it has 60 bytes, where 12 came
rolling : Bytes → List Given
rolling p =
    marking
    ∷ joining 2 p (exchanges 1 5 (sent ++ late))
    ∷ given Call.wifi_disconnect (clock 0 ++ (coming (packet_of 16 2 12 0 9 (replicate 4 0)) ++ (sent ++ (replied 7 0 ++ tick 5))))
    ∷ polling (coming (packet_of 60 1 12 0 1 []) ++ status 0)
    ∷ []

-- passphrases whose byte 19 is an event's type: none, and a deauthentication
quiet : Bytes
quiet = replicate 19 0 ++ (99 ∷ [])

deauth : Bytes
deauth = replicate 19 0 ++ (5 ∷ [])

abc : Bytes
abc = 97 ∷ 98 ∷ 99 ∷ 100 ∷ 101 ∷ 102 ∷ 103 ∷ 104 ∷ []

xyz : Bytes
xyz = 120 ∷ 121 ∷ 122 ∷ 123 ∷ 124 ∷ 125 ∷ 126 ∷ 127 ∷ []

-- ---- what is computed of a session

abbrev keys : List Note → ℕ
keys [] = 0
keys (Note.received declared came ∷ ns) = keys ns
keys (Note.advanced n ∷ ns) = keys ns
keys (Note.spent ∷ ns) = keys ns
keys (Note.key_laid frame reply ∷ ns) = suc (keys ns)

-- each call's refusal and value; the premises, and how many passphrases were laid
record Told : Type 0 where
  refusals : List ℕ
  values : List ℕ
  came : Bool
  frameless : Bool
  replyless : Bool
  laid : ℕ

abbrev telling : List ℕ → List ℕ → Bool → Bool → Bool → ℕ → Told
telling r v c f p n = record { refusals = r; values = v; came = c; frameless = f; replyless = p; laid = n }

abbrev refusals_of : List Seen → List ℕ
refusals_of = map (λ (s : Seen). refusal_of s.outcome)

abbrev values_of : List Seen → List ℕ
values_of = map (λ (s : Seen). value_of s.outcome)

abbrev told : List Given → Told
told gs =
    let h = history gs start in
    telling (refusals_of (observed gs start)) (values_of (observed gs start)) (every came? h) (every frameless? h) (every replyless? h) (keys h)

-- a whole join of each auth that lays a passphrase, the last lays it twice; and the three sessions that break a premise
sessions : List (List Given)
sessions =
    whole 1 1 abc
    ∷ whole 2 1 abc
    ∷ whole 3 1 abc
    ∷ whole 4 1 abc
    ∷ whole 5 2 abc
    ∷ too_short abc
    ∷ frame_waiting abc
    ∷ reply_waiting abc
    ∷ reply_waiting xyz
    ∷ []

good : List ℕ
good = 0 ∷ 0 ∷ 0 ∷ 0 ∷ 0 ∷ []

got : List ℕ
got = 0 ∷ 0 ∷ 1 ∷ 14 ∷ 0 ∷ []

sessions-told : map told sessions ≡ telling good got true true true 1
    ∷ telling good got true true true 1
    ∷ telling good got true true true 1
    ∷ telling good got true true true 1
    ∷ telling good got true true true 2
    ∷ telling (0 ∷ 2 ∷ 0 ∷ 0 ∷ []) (0 ∷ 0 ∷ 1 ∷ 44 ∷ []) false true true 1
    ∷ telling (0 ∷ 0 ∷ 2 ∷ 0 ∷ []) (0 ∷ 1 ∷ 0 ∷ 64 ∷ []) true false true 1
    ∷ telling (0 ∷ 7 ∷ 0 ∷ []) (0 ∷ 3 ∷ 0x64636261 ∷ []) true true false 1
    ∷ telling (0 ∷ 7 ∷ 0 ∷ []) (0 ∷ 3 ∷ 0x7b7a7978 ∷ []) true true false 1
    ∷ []
unfolding sessions good got start abc xyz whole too_short frame_waiting reply_waiting exchanges observed history seen opened
sessions-told = refl

-- ---- the premises can be met

-- so the theorem speaks of these sessions
alike : (auth k : ℕ) → every came? (history (whole auth k abc) start) ≡ true → every frameless? (history (whole auth k abc) start) ≡ true → every replyless? (history (whole auth k abc) start) ≡ true
    → SeenAlike (whole auth k abc) (whole auth k xyz) start
unfolding start abc xyz whole
alike auth k c f r =
    let h : List Note = history (whole auth k abc) start in
    secrecy (whole auth k abc) (whole auth k xyz) (replicate 2048 0) empty_list
    (more same (more (join refl) (more same (more same (more same none)))))
    (every-is Came came? came-is h c)
    (every-both Frameless Replyless Idle idle h (every-is Frameless frameless? frameless-is h f) (every-is Replyless replyless? replyless-is h r))

alike-1 : SeenAlike (whole 1 1 abc) (whole 1 1 xyz) start
unfolding start abc whole exchanges history opened
alike-1 = alike 1 1 refl refl refl

alike-2 : SeenAlike (whole 2 1 abc) (whole 2 1 xyz) start
unfolding start abc whole exchanges history opened
alike-2 = alike 2 1 refl refl refl

alike-3 : SeenAlike (whole 3 1 abc) (whole 3 1 xyz) start
unfolding start abc whole exchanges history opened
alike-3 = alike 3 1 refl refl refl

alike-4 : SeenAlike (whole 4 1 abc) (whole 4 1 xyz) start
unfolding start abc whole exchanges history opened
alike-4 = alike 4 1 refl refl refl

alike-5 : SeenAlike (whole 5 2 abc) (whole 5 2 xyz) start
unfolding start abc whole exchanges history opened
alike-5 = alike 5 2 refl refl refl

-- ---- what is hidden, and that it is no more than has to be

-- the log that is compared, and the log itself, of the call i
abbrev seen_log : ℕ → List Given → List ℕ
seen_log i gs = get_or (map (λ (s : Seen). s.log) (observed gs start)) i []

abbrev ends : List Given → World → List (List ℕ)
ends [] w = []
ends (g ∷ gs) w = (end_of g w).log ∷ ends gs (next g w)

abbrev whole_log : ℕ → List Given → List ℕ
whole_log i gs = get_or (ends gs start) i []

-- the key packets are seen alike, and so is a packet whose padding holds bytes of the passphrase
logs-alike : same_bytes (seen_log 1 (whole 2 1 abc)) (seen_log 1 (whole 2 1 xyz)) ∷ same_bytes (seen_log 1 (whole 5 2 abc)) (seen_log 1 (whole 5 2 xyz)) ∷ same_bytes (seen_log 2 (padded abc)) (seen_log 2 (padded xyz)) ∷ []
    ≡ true ∷ true ∷ true ∷ []
unfolding start abc xyz whole padded exchanges observed seen hidden blotted blot opened
logs-alike = refl

-- the logs themselves differ in both
logs-differ : same_bytes (whole_log 1 (padded abc)) (whole_log 1 (padded xyz)) ∷ same_bytes (whole_log 2 (padded abc)) (whole_log 2 (padded xyz)) ∷ [] ≡ false ∷ false ∷ []
unfolding start abc xyz padded exchanges opened
logs-differ = refl

-- ---- each is needed

-- the theorem with another premise
abbrev Under : (Note → Type 0) → Type 0
Under P = (gs gs' : List Given) (b : Bytes) (l : ScanList) → Same gs gs' → Every P (history gs (world fresh b l)) → SeenAlike gs gs' (world fresh b l)

-- byte 16 of the last output, where the passphrase's first byte lies
abbrev output_byte : List Seen → ℕ
output_byte l = get_or (get_or (map (λ (s : Seen). s.output) l) 3 []) 16 0

-- a packet that says more than came
short-leaks : SeenAlike (too_short abc) (too_short xyz) start → ⊥
unfolding start abc xyz too_short exchanges observed seen opened
short-leaks e =
    let h : ◌≡◌ {A = ℕ} 97 120 = ap output_byte e in
    omega arith

-- a frame that waits
frame-leaks : SeenAlike (frame_waiting abc) (frame_waiting xyz) start → ⊥
unfolding start abc xyz frame_waiting exchanges observed seen opened
frame-leaks e =
    let h : ◌≡◌ {A = ℕ} 97 120 = ap output_byte e in
    omega arith

-- a stored reply that waits: get's value is the passphrase's first bytes
reply-leaks : SeenAlike (reply_waiting abc) (reply_waiting xyz) start → ⊥
unfolding start abc xyz reply_waiting exchanges observed seen opened
reply-leaks e =
    let h : ◌≡◌ {A = ℕ} 0x64636261 0x7b7a7978 = ap (λ (l : List Seen). get_or (values_of l) 2 0) e in
    omega arith

-- without the first premise
pub came-needed : Under Idle → ⊥
unfolding start abc xyz too_short exchanges history opened
came-needed t =
    let h : List Note = history (too_short abc) start in
    short-leaks (t (too_short abc) (too_short xyz) (replicate 2048 0) empty_list (more same (more (join refl) (more same (more same none))))
    (every-both Frameless Replyless Idle idle h (every-is Frameless frameless? frameless-is h refl) (every-is Replyless replyless? replyless-is h refl)))

-- with the second for replies alone
pub frame-needed : Under (λ n. Came n × Replyless n) → ⊥
unfolding start abc xyz frame_waiting exchanges history opened
frame-needed t =
    let h : List Note = history (frame_waiting abc) start in
    frame-leaks (t (frame_waiting abc) (frame_waiting xyz) (replicate 2048 0) empty_list (more same (more same (more (join refl) (more same none))))
    (every-both Came Replyless (λ n. Came n × Replyless n) (λ n c r. (c, r)) h (every-is Came came? came-is h refl) (every-is Replyless replyless? replyless-is h refl)))

-- with the second for frames alone
pub reply-needed : Under (λ n. Came n × Frameless n) → ⊥
unfolding start abc xyz reply_waiting exchanges history opened
reply-needed t =
    let h : List Note = history (reply_waiting abc) start in
    reply-leaks (t (reply_waiting abc) (reply_waiting xyz) (replicate 2048 0) empty_list (more same (more (join refl) (more same none)))
    (every-both Came Frameless (λ n. Came n × Frameless n) (λ n c r. (c, r)) h (every-is Came came? came-is h refl) (every-is Frameless frameless? frameless-is h refl)))

-- ---- they are asked of calls that are rolled back too

-- 8, 9, 12 and 13
abbrev undone : ℕ → Bool
undone n = eqb n 8 || (eqb n 9 || (eqb n 12 || eqb n 13))

-- the history without the calls that were rolled back
unfoldable pub kept_history : List Given → World → List Note
kept_history [] w = []
kept_history (g ∷ gs) w = pick (undone (refusal_of (end_of g w).outcome)) [] (history_of g w).notes ++ kept_history gs (next g w)

rolling-told : refusals_of (observed (rolling quiet) start) ∷ refusals_of (observed (rolling deauth) start) ∷ [] ≡ (0 ∷ 2 ∷ 0 ∷ 8 ∷ []) ∷ (0 ∷ 2 ∷ 0 ∷ 0 ∷ []) ∷ []
unfolding start rolling quiet deauth exchanges observed seen opened
rolling-told = refl

-- one run is refused 8, the other is not
rolling-leaks : SeenAlike (rolling quiet) (rolling deauth) start → ⊥
unfolding start rolling quiet deauth exchanges observed seen opened
rolling-leaks e =
    let h : ◌≡◌ {A = ℕ} 8 0 = ap (λ (l : List Seen). get_or (refusals_of l) 3 0) e in
    omega arith

pub undone-needed : ((gs gs' : List Given) (b : Bytes) (l : ScanList) → Same gs gs' → Every Came (kept_history gs (world fresh b l)) → Every Idle (kept_history gs (world fresh b l)) → SeenAlike gs gs' (world fresh b l)) → ⊥
unfolding start rolling quiet deauth exchanges kept_history opened
undone-needed t =
    let h : List Note = kept_history (rolling quiet) start in
    rolling-leaks (t (rolling quiet) (rolling deauth) (replicate 2048 0) empty_list (more same (more (join refl) (more same (more same none))))
    (every-is Came came? came-is h refl)
    (every-both Frameless Replyless Idle idle h (every-is Frameless frameless? frameless-is h refl) (every-is Replyless replyless? replyless-is h refl)))
