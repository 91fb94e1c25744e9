-- An operation and its answer, in the code's terms.
use mathlib.Core.Path.{◌≡◌, refl, sym, ap, ◌∙◌}
use mathlib.Core.Bool.{Bool, true, false}
use mathlib.Core.List.{List, []}
use Prim.Native.Nat.{ℕ, ◌+◌, ◌-◌, ◌≤◌, ◌<◌}
use native.Mathlib.Nat.{zero-add, sub-zero}
use native.Mathlib.Omega.{arith}
use lib.Dec.{leb}
use lib.ListN.{length, drop, get_or, length-drop}
use lib.Seq.{drop-drop}
use borrow.Author.Tests.{le-leb, lt-leb, eq-eqb, ne_eqb}
use Rattle.slices.specs.Pick.{pick}
use Rattle.slices.specs.Over.{over}
use Rattle.slices.proofs.Over.{over-nil}
use Rattle.wlan.specs.declared.BusOp.{BusOp}
use Rattle.wlan.specs.declared.Refusal.{Refusal}
use Rattle.definition.specs.Bus.{Bytes, Place, Op, words_of, log_of, size_of, answers, Ans, val}
use Rattle.definition.specs.Prog.{World, Prog, ask, say}
use Rattle.definition.specs.Poll.{Result}
use Rattle.definition.specs.Run.{words, rolled_back, shown}
use Rattle.definition.proofs.Compose.{unroll}
use Rattle.bus.specs.Op.{op_of, bare}
use Rattle.answers.specs.Taken.{taken_of}
use Rattle.answers.proofs.Answers.{rest_of, head_at, size-pos, taken-any, taken-bare, taken-unrecorded, taken-wrong, taken-fault, taken-value}
use Rattle.device.specs.Meaning.{secretly, op_in, asking, told, landing, InRange}
use Rattle.effects.specs.Answer.{answer_in, is_wait}
use Rattle.going.specs.Onward.{finish, go, heard, responded, end_of, called_by}
use Rattle.going.proofs.Going.{go-unroll, go-ask, go-say}
use Rattle.std.specs.Prelude.{Ok, Err}
use Rattle.wlan.specs.Results.{BusAnswer}
use Rattle.answers.specs.declared.NoAnswer.{NoAnswer}

-- ---- where a passphrase was laid is not seen

words-secretly : (s : Place) (q : Op) → words_of (secretly s q) ≡ words_of q
unfolding secretly words_of
words-secretly s Op.read_interrupt = refl
words-secretly s Op.read_status = refl
words-secretly s (Op.read_packet n) = refl
words-secretly s Op.read_clock = refl
words-secretly s Op.read_tick = refl
words-secretly s (Op.write_packet p t) = refl
words-secretly s (Op.write_interrupt v) = refl
words-secretly s Op.frame_control = refl
words-secretly s (Op.wait ns) = refl

bare-secretly : (s : Place) (q : Op) → bare (secretly s q) ≡ bare q
unfolding secretly
bare-secretly s Op.read_interrupt = refl
bare-secretly s Op.read_status = refl
bare-secretly s (Op.read_packet n) = refl
bare-secretly s Op.read_clock = refl
bare-secretly s Op.read_tick = refl
bare-secretly s (Op.write_packet p t) = refl
bare-secretly s (Op.write_interrupt v) = refl
bare-secretly s Op.frame_control = refl
bare-secretly s (Op.wait ns) = refl

taken_in : (op : BusOp) (s : Place) (b : Bytes) (ws : List ℕ) → taken_of (op_of op []) ws ≡ taken_of (op_in op s b) ws
taken_in op s b ws =
    sym (taken-any op b ws)
    ∙ (sym (taken-bare (op_of op b) ws)
    ∙ (ap (λ q. taken_of q ws) (sym (bare-secretly s (op_of op b)))
    ∙ taken-bare (secretly s (op_of op b)) ws))

-- ---- an operation and what follows it

asking-is : (op : BusOp) (s : Place) (b : Bytes) (k : Ans → Prog Result) → asking (op_in op s b) k ≡ pick (is_wait op) (say (op_in op s b) (k (val 0 []))) (ask (op_in op s b) k)
unfolding asking secretly is_wait
asking-is BusOp.ReadInterrupt s b k = refl
asking-is BusOp.ReadStatus s b k = refl
asking-is (BusOp.ReadPacket n) s b k = refl
asking-is BusOp.ReadClock s b k = refl
asking-is BusOp.ReadTick s b k = refl
asking-is (BusOp.WritePacket n) s b k = refl
asking-is (BusOp.WriteInterrupt v) s b k = refl
asking-is BusOp.FrameControl s b k = refl
asking-is (BusOp.Wait ns) s b k = refl

-- ---- the answer to an operation in the log

module _ (e : World) (ws log : List ℕ) (len : ℕ) (op : BusOp) (s : Place) (b : Bytes) (k : Ans → Prog Result) where
  abbrev q : Op
  q = op_in op s b

  -- 8
  pub heard-none : Err NoAnswer.Unrecorded ≡ taken_of (op_of op []) ws → finish log len (rolled_back Refusal.Unrecorded e) ≡ heard e (answers ws) log len q k
  unfolding heard
  heard-none h = rw (taken-unrecorded q ws (sym (h ∙ taken_in op s b ws)))

  -- 9
  pub heard-wrong : Err NoAnswer.Wrong ≡ taken_of (op_of op []) ws → finish log len (rolled_back Refusal.WrongAnswer e) ≡ heard e (answers ws) log len q k
  unfolding heard
  heard-wrong h =
      let n = taken-wrong q ws (sym (h ∙ taken_in op s b ws)) in
      rw (n.are, n.taken)

  pub heard-got : (x : BusAnswer) → Ok x ≡ taken_of (op_of op []) ws → go e (rest_of ws) log len (k (answer_in x ws)) ≡ heard e (answers ws) log len q k
  unfolding heard go answer_in
  heard-got (Err f) h =
      let n = taken-fault q ws f.place (sym (h ∙ taken_in op s b ws)) in
      rw (n.are, n.taken)
  heard-got (Ok v) h =
      let n = taken-value q ws v (sym (h ∙ taken_in op s b ws)) in
      rw (n.are, n.taken)

  -- ---- the operation itself

  by_kind : (w : Bool) → go e ws log len (pick w (say q (k (val 0 []))) (ask q k)) ≡ pick (leb (words q) (length log - len)) (pick w (go e ws (over log len (words_of q)) (len + words q) (k (val 0 []))) (heard e (answers ws) (over log len (words_of q)) (len + words q) q k)) (finish log len (rolled_back Refusal.LogFull e))
  by_kind true = go-say e log len q ws (k (val 0 []))
  by_kind false = go-ask e log len q ws k

  asked_is : go e ws log len (asking q k) ≡ pick (leb (words q) (length log - len)) (responded e ws (over log len (words_of q)) (len + words q) op s b k) (finish log len (rolled_back Refusal.LogFull e))
  unfolding responded
  asked_is = rw (asking-is op s b k) (by_kind (is_wait op))

  -- its words fit the log
  pub asked-fits : (n : ℕ) (log' : List ℕ) → n ≡ length (words_of (op_of op b)) → log' ≡ over log len (words_of (op_of op b)) → n ≤ length log - len → responded e ws log' (len + n) op s b k ≡ go e ws log len (asking q k)
  asked-fits n log' hn hl h =
      let f : leb (words q) (length log - len) ≡ true = rw (words-secretly s (op_of op b), ← hn) (le-leb n (length log - len) h) in
      rw (asked_is, f, words-secretly s (op_of op b), ← hn, ← hl)

  -- 12
  pub asked-full : (n : ℕ) → n ≡ length (words_of (op_of op b)) → length log - len < n → finish log len (rolled_back Refusal.LogFull e) ≡ go e ws log len (asking q k)
  asked-full n hn h =
      let f : leb (words q) (length log - len) ≡ false = rw (words-secretly s (op_of op b), ← hn) (lt-leb n (length log - len) h) in
      rw (asked_is, f)

  pub responded-wait : is_wait op ≡ true → responded e ws log len op s b k ≡ go e ws log len (k (val 0 []))
  unfolding responded
  responded-wait h = rw h

  pub responded-heard : is_wait op ≡ false → responded e ws log len op s b k ≡ heard e (answers ws) log len q k
  unfolding responded
  responded-heard h = rw h

pub told-answer : (x : BusAnswer) (ws : List ℕ) → told (answer_in x ws) ≡ x
unfolding told answer_in
told-answer (Err f) ws = refl
told-answer (Ok v) ws = refl

-- an operation has a word or more
pub words-pos : (q : Op) → 1 ≤ length (words_of q)
unfolding words_of
words-pos Op.read_interrupt = omega arith
words-pos Op.read_status = omega arith
words-pos (Op.read_packet n) = omega arith
words-pos Op.read_clock = omega arith
words-pos Op.read_tick = omega arith
words-pos (Op.write_packet p t) = omega arith
words-pos (Op.write_interrupt v) = omega arith
words-pos Op.frame_control = omega arith
words-pos (Op.wait ns) = omega arith

-- ---- a wait

pub wait-range : (op : BusOp) → is_wait op ≡ true → InRange op (val 0 [])
unfolding is_wait InRange
wait-range BusOp.ReadInterrupt h = omega arith
wait-range BusOp.ReadStatus h = omega arith
wait-range (BusOp.ReadPacket n) h = tt
wait-range BusOp.ReadClock h = tt
wait-range BusOp.ReadTick h = tt
wait-range (BusOp.WritePacket n) h = tt
wait-range (BusOp.WriteInterrupt v) h = tt
wait-range BusOp.FrameControl h = tt
wait-range (BusOp.Wait ns) h = tt

-- nothing lands
pub wait-lands : (op : BusOp) (b : Bytes) → is_wait op ≡ true → b ≡ landing op (val 0 []) b
unfolding is_wait landing
wait-lands BusOp.ReadInterrupt b h = refl
wait-lands BusOp.ReadStatus b h = refl
wait-lands (BusOp.ReadPacket n) b h = absurd (let z : ◌≡◌ {A = ℕ} 0 1 = cc in omega arith)
wait-lands BusOp.ReadClock b h = refl
wait-lands BusOp.ReadTick b h = refl
wait-lands (BusOp.WritePacket n) b h = refl
wait-lands (BusOp.WriteInterrupt v) b h = refl
wait-lands BusOp.FrameControl b h = refl
wait-lands (BusOp.Wait ns) b h = refl

-- ---- the words after an answer

pub rest-is : (rec : List ℕ) (pos : ℕ) → rest_of (drop pos rec) ≡ drop (pos + size_of (get_or rec pos 0)) rec
rest-is rec pos = rw (head_at rec pos) (drop-drop (size_of (get_or rec pos 0)) pos rec)

pub rest-go : (e : World) (rec log : List ℕ) (pos len used : ℕ) (p : Prog Result) → used ≡ size_of (get_or rec pos 0) → go e (drop (pos + used) rec) log len p ≡ go e (rest_of (drop pos rec)) log len p
rest-go e rec log pos len used p h = rw (rest-is rec pos, h)

-- an answer that was taken is there
pub got-whole : (op : BusOp) (rec : List ℕ) (pos : ℕ) (x : BusAnswer) → Ok x ≡ taken_of (op_of op []) (drop pos rec) → pos + size_of (get_or rec pos 0) ≤ length rec
got-whole op rec pos (Err f) h =
    let w : size_of (get_or rec pos 0) ≤ length (drop pos rec) = rw (head_at rec pos) at (taken-fault (op_of op []) (drop pos rec) f.place (sym h)).whole in
    omega (arith, length-drop pos rec, size-pos (get_or rec pos 0))
got-whole op rec pos (Ok v) h =
    let w : size_of (get_or rec pos 0) ≤ length (drop pos rec) = rw (head_at rec pos) at (taken-value (op_of op []) (drop pos rec) v (sym h)).whole in
    omega (arith, length-drop pos rec, size-pos (get_or rec pos 0))

-- ---- the end of a run

-- from the first word of the recording and of the log on
pub from_start : (w : World) (rec log : List ℕ) (p : Prog Result) → length w.buf ≡ 2048 → go w (drop 0 rec) log 0 p ≡ called_by w rec log p
unfolding go finish called_by shown
from_start w rec log p h = rw (eq-eqb (length w.buf) 2048 h, zero-add, sub-zero)

-- a tree whose front is known
pub called-from : (w : World) (rec log : List ℕ) (p t : Prog Result) → length w.buf ≡ 2048 → unroll p ≡ t → go w (drop 0 rec) log 0 t ≡ called_by w rec log p
called-from w rec log p t h u = ap (go w (drop 0 rec) log 0) (sym u) ∙ (go-unroll w (drop 0 rec) log 0 p ∙ from_start w rec log p h)

-- 13
pub called-13 : (w : World) (rec log : List ℕ) (p : Prog Result) → (length w.buf ≡ 2048 → ⊥) → end_of (record { outcome = Err Refusal.BufferLength; st = w.st; list = w.list; len = 0 }) log w.buf [] ≡ called_by w rec log p
unfolding called_by shown log_of over
called-13 w rec log p h = rw (ne_eqb (length w.buf) 2048 h, over-nil log 0)
