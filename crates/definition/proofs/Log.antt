-- The log: its length is the operations' own words, they fit, and the words past them are untouched.
use mathlib.Core.Path.{◌≡◌, refl, sym, ap, ◌∙◌}
use mathlib.Core.Bool.{Bool, true, false}
use mathlib.Core.List.{List, [], ◌∷◌, ◌++◌, append_assoc}
use Prim.Native.Nat.{ℕ, ◌+◌, ◌-◌, ◌≤◌}
use native.Mathlib.Nat.{zero-add}
use native.Mathlib.Omega.{arith}
use borrow.Author.Tests.{leb-true}
use lib.Dec.{leb, eqb}
use lib.ListN.{length, take, drop, length-append}
use lib.Seq.{take-append_seam, drop-append_seam}
use Rattle.slices.specs.Pick.{pick}
use Rattle.slices.specs.Over.{over}
use Rattle.slices.proofs.Over.{length_over, over-parts}
use Rattle.wlan.specs.declared.Refusal.{Refusal}
use Rattle.definition.specs.Bus.{Bytes, Op, words_of, log_of, Answer, answers, Ans, Taken, got, wrong, taken_by}
use Rattle.definition.specs.Prog.{World, Prog, ret, stop, ask, say, loop, note}
use Rattle.definition.specs.Poll.{Result, first}
use Rattle.definition.specs.Calls.{Call, call}
use Rattle.definition.specs.Run.{Rest, ended, refused, paused, full, Settled, at, logged, words, turning, settle, Run, answered, unanswered, resumed, run, rolled_back, run_of, End, shown, called}

pub log_of-append : (a b : List Op) → log_of (a ++ b) ≡ log_of a ++ log_of b
unfolding log_of
log_of-append [] b = refl
log_of-append (q ∷ a) b = rw (log_of-append a b) (sym (append_assoc (words_of q) (log_of a) (log_of b)))

-- the words that are left where a tree pauses
abbrev left : Rest → ℕ
left (ended r w) = 0
left (refused e w) = 0
left (paused room q k) = room
left full = 0

-- what was logged, and what is left, is within the room
abbrev Within : ℕ → Settled → Type 0
Within room s = length (log_of s.ops) + left s.rest ≤ room

fitting-within : (room : ℕ) (q : Op) (s : Settled) → Within (room - words q) s → Within room (pick (leb (words q) room) (logged q s) (at full))
unfolding log_of
fitting-within room q s h = go (leb (words q) room) (λ e. leb-true (words q) room e)
  where
    go : (b : Bool) → (b ≡ true → words q ≤ room) → Within room (pick b (logged q s) (at full))
    go true f = let g = f refl in omega (arith, length-append (words_of q) (log_of s.ops))
    go false f = omega arith

settle-within : (room : ℕ) (p : Prog Result) → Within room (settle room p)
unfolding settle log_of
settle-within room (ret r w) = omega arith
settle-within room (stop e w) = omega arith
settle-within room (ask q k) = fitting-within room q (at (paused (room - words q) q k)) (omega arith)
settle-within room (say q p) = fitting-within room q (settle (room - words q) p) (settle-within (room - words q) p)
settle-within room (loop l w k) =
    let q = first l w.st in
    fitting-within room q (at (paused (room - words q) q (turning l w k))) (omega arith)
settle-within room (note n p) = settle-within room p

-- a run logs no more than there is room for
abbrev Fits : ℕ → Run → Type 0
Fits room r = length (log_of r.ops) ≤ room

pub after-fits : (room m : ℕ) (s t : List Op) → length (log_of s) + m ≤ room → length (log_of t) ≤ m → length (log_of (s ++ t)) ≤ room
after-fits room m s t h g = omega (arith, ap length (log_of-append s t), length-append (log_of s) (log_of t))

unanswered-fits : (e : World) (r : Rest) → Fits (left r) (unanswered e r)
unfolding log_of
unanswered-fits e (ended r w) = omega arith
unanswered-fits e (refused x w) = omega arith
unanswered-fits e (paused room q k) = omega arith
unanswered-fits e full = omega arith

answered-fits : (room : ℕ) (e : World) (go : Prog Result → Run) (k : Ans → Prog Result) (t : Taken) → ((p : Prog Result) → Fits room (go p)) → Fits room (answered e go k t)
unfolding log_of
answered-fits room e go k (got x) g = g (k x)
answered-fits room e go k wrong g = omega arith

resumed-fits : (e : World) (a : Answer) (go : ℕ → Prog Result → Run) (r : Rest) → ((room : ℕ) (p : Prog Result) → Fits room (go room p)) → Fits (left r) (resumed e a go r)
unfolding log_of
resumed-fits e a go (ended r w) g = omega arith
resumed-fits e a go (refused x w) g = omega arith
resumed-fits e a go (paused room q k) g = answered-fits room e (go room) k (taken_by q a) (g room)
resumed-fits e a go full g = omega arith

pub run_fits : (e : World) (more : List Answer) (room : ℕ) (p : Prog Result) → length (log_of (run e more room p).ops) ≤ room
unfolding run
run_fits e [] room p =
    let s = settle room p in
    after-fits room (left s.rest) s.ops (unanswered e s.rest).ops (settle-within room p) (unanswered-fits e s.rest)
run_fits e (a ∷ more) room p =
    let s = settle room p in
    let go : ℕ → Prog Result → Run = λ m q. run e more m q in
    after-fits room (left s.rest) s.ops (resumed e a go s.rest).ops (settle-within room p) (resumed-fits e a go s.rest (λ m q. run_fits e more m q))

run_of-fits : (c : Call) (w : World) (recording : List ℕ) (room : ℕ) → Fits room (run_of c w recording room)
unfolding run_of log_of
run_of-fits c w recording room = go (eqb (length w.buf) 2048)
  where
    go : (b : Bool) → Fits room (pick b (run w (answers recording) room (call c w)) (rolled_back Refusal.BufferLength w))
    go true = run_fits w (answers recording) room (call c w)
    go false = omega arith

-- ---- of an exported call

module _ (c : Call) (w : World) (recording log : List ℕ) (out : Bytes) where
  -- what it logged
  abbrev pub ops : List Op
  ops = (run_of c w recording (length log)).ops

  -- the reported length fits the log
  pub len-fits : (called c w recording log out).len ≤ length log
  unfolding called shown
  len-fits = run_of-fits c w recording (length log)

  -- the log is as long as it was
  pub log-length : length (called c w recording log out).log ≡ length log
  unfolding called shown
  log-length = length_over log 0 (log_of ops)

  -- the output is as long as it was
  pub output-length : length (called c w recording log out).output ≡ length out
  unfolding called shown
  output-length = length_over out 0 (run_of c w recording (length log)).output

  split : over log 0 (log_of ops) ≡ log_of ops ++ drop (length (log_of ops)) log
  split = rw zero-add at (over-parts log 0 (log_of ops) (omega (arith, run_of-fits c w recording (length log))))

  -- up to the reported length the log is the operations' words
  pub log-front : take (called c w recording log out).len (called c w recording log out).log ≡ log_of ops
  unfolding called shown
  log-front = ap (take (length (log_of ops))) split ∙ take-append_seam (log_of ops) (drop (length (log_of ops)) log)

  -- 'Log words past the reported length are untouched.'
  pub log-rest : drop (called c w recording log out).len (called c w recording log out).log ≡ drop (called c w recording log out).len log
  unfolding called shown
  log-rest = ap (drop (length (log_of ops))) split ∙ drop-append_seam (log_of ops) (drop (length (log_of ops)) log)
