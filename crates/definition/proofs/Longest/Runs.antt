-- A tree that pays, run: its log is within what may be logged, and is never full where there is room for that.
use mathlib.Core.Path.{◌≡◌, refl}
use mathlib.Core.Bool.{Bool, true, false}
use mathlib.Core.List.{List, [], ◌∷◌, ◌++◌}
use Prim.Native.Nat.{ℕ, ◌+◌, ◌-◌, ◌≤◌, ◌<◌}
use native.Mathlib.Omega.{arith}
use borrow.Author.Tests.{leb-false}
use lib.Dec.{leb}
use lib.ListN.{length, length-append}
use Rattle.slices.specs.Pick.{pick}
use Rattle.wlan.specs.declared.Refusal.{Refusal}
use Rattle.definition.specs.Bus.{Op, words_of, log_of, Answer, Ans, Taken, got, wrong, taken_by}
use Rattle.definition.specs.Prog.{World, Fin, fine, failed, Turn, again, out, stall_loop, reply_loop, poll_loop, Prog, ret, stop, ask, say, loop, note, attempt, turned}
use Rattle.definition.specs.Poll.{Result, first, body}
use Rattle.definition.specs.Run.{Rest, ended, refused, paused, full, Settled, at, logged, words, turning, settle, Run, afterwards, answered, unanswered, resumed, run}
use Rattle.definition.specs.Longest.{most}
use Rattle.definition.proofs.Log.{after-fits}
use Rattle.definition.proofs.Longest.Pays.{cost, paid, after_loop, Pays, FinQ, p-weaken, p-bind, p-attempt}
use Rattle.definition.proofs.Longest.Words.{weight, total, Costs, taken-costs}
use Rattle.std.specs.Prelude.{Ok, Err}
use Rattle.wlan.specs.Results.{Outcome}

-- nothing is logged after a call's result
abbrev pub Done : Result → ℕ → ℕ
Done r n = 0

-- a turn of poll's loop: the loop once more, or what may follow it
abbrev pub TurnQ : Turn Bool → ℕ → ℕ
TurnQ again n = most n
TurnQ (out b) n = 1

-- every turn pays, from its first operation on
pub record Turns : Type 0 where
  pub opens : (w : World) (n : ℕ) → words (first poll_loop w.st) ≤ most n
  pub goes : (x : Ans) (w : World) → Pays TurnQ (paid (first poll_loop w.st) x most) (body poll_loop x w)

abbrev log_length : List Op → ℕ
log_length ops = length (log_of ops)

-- ---- up to an operation that takes an answer

-- there was room for so many words, f n may be logged, and m are
abbrev RestPays : ℕ → (ℕ → ℕ) → ℕ → Rest → Type 0
RestPays room f m (ended r w) = Unit {0}
RestPays room f m (refused e w) = Unit {0}
RestPays room f m (paused left q k) = (left ≡ room - m) × ((x : Ans) → Pays Done (λ n. f (n + cost q x) - m) (k x))
RestPays room f m full = (n : ℕ) → room - m < f n - m

record SettledPays (room : ℕ) (f : ℕ → ℕ) (s : Settled) : Type 0 where
  fits : (n : ℕ) → log_length s.ops ≤ f n
  on : RestPays room f (log_length s.ops) s.rest

-- an operation of j words before
rest_more : (room : ℕ) (f : ℕ → ℕ) (j m k : ℕ) → k ≡ j + m → (r : Rest) → RestPays (room - j) (λ n. f n - j) m r → RestPays room f k r
rest_more room f j m k e (ended r w) u = tt
rest_more room f j m k e (refused x w) u = tt
rest_more room f j m k e (paused left q c) u =
    (omega (arith, e, u.0), λ x. p-weaken Done (λ n. f (n + cost q x) - j - m) (λ n. f (n + cost q x) - k) (c x) (λ n. omega (arith, e)) (u.1 x))
rest_more room f j m k e full u = λ n. omega (arith, e, u n)

fitting-pays : (room : ℕ) (f : ℕ → ℕ) (q : Op) (s : Settled) → ((n : ℕ) → words q ≤ f n) → SettledPays (room - words q) (λ n. f n - words q) s
    → SettledPays room f (pick (leb (words q) room) (logged q s) (at full))
unfolding log_of
fitting-pays room f q s h u = go (leb (words q) room) (leb-false (words q) room)
  where
    go : (b : Bool) → (b ≡ false → room < words q) → SettledPays room f (pick b (logged q s) (at full))
    go true i =
        let l : length (words_of q ++ log_of s.ops) ≡ words q + log_length s.ops = length-append (words_of q) (log_of s.ops) in
        record { fits = λ n. omega (arith, l, h n, u.fits n); on = rest_more room f (words q) (log_length s.ops) _ l s.rest u.on }
    go false i = record { fits = λ n. omega arith; on = λ n. omega (arith, h n, i refl) }

paused-pays : (room : ℕ) (f : ℕ → ℕ) (q : Op) (k : Ans → Prog Result) → ((x : Ans) → Pays Done (λ n. f (n + cost q x)) (k x)) → SettledPays room f (at (paused room q k))
unfolding log_of
paused-pays room f q k u =
    record { fits = λ n. omega arith; on = (omega arith, λ x. p-weaken Done (λ n. f (n + cost q x)) (λ n. f (n + cost q x) - 0) (k x) (λ n. omega arith) (u x)) }

-- ---- the whole run

-- any outcome but 12
abbrev pub NotFull : Outcome → Type 0
NotFull (Ok x) = Unit {0}
NotFull (Err (Refusal.Driver e)) = Unit {0}
NotFull (Err Refusal.Unrecorded) = Unit {0}
NotFull (Err Refusal.WrongAnswer) = Unit {0}
NotFull (Err Refusal.LogFull) = ⊥
NotFull (Err Refusal.BufferLength) = Unit {0}

-- what a run has logged is within the bound, and room for that is enough
pub record Bounded (room bound : ℕ) (r : Run) : Type 0 where
  pub fits : log_length r.ops ≤ bound
  pub enough : bound ≤ room → NotFull r.outcome

-- what was logged before, and what the rest logs
after-bounded : (room bound : ℕ) (s : Settled) (r : Run) → log_length s.ops ≤ bound → Bounded (room - log_length s.ops) (bound - log_length s.ops) r
    → Bounded room bound (afterwards s r)
after-bounded room bound s r h i =
    record { fits = after-fits bound (bound - log_length s.ops) s.ops r.ops (omega (arith, h)) i.fits; enough = λ j. i.enough (omega (arith, j)) }

-- no answer is left
unanswered-bounded : (e : World) (room : ℕ) (f : ℕ → ℕ) (m n : ℕ) (r : Rest) → RestPays room f m r → Bounded (room - m) (f n - m) (unanswered e r)
unfolding log_of
unanswered-bounded e room f m n (ended r w) u = record { fits = omega arith; enough = λ i. tt }
unanswered-bounded e room f m n (refused x w) u = record { fits = omega arith; enough = λ i. tt }
unanswered-bounded e room f m n (paused left q k) u = record { fits = omega arith; enough = λ i. tt }
unanswered-bounded e room f m n full u = record { fits = omega arith; enough = λ i. omega (arith, i, u n) }

answered-bounded : (e : World) (go : Prog Result → Run) (q : Op) (k : Ans → Prog Result) (a : Answer) (room bound : ℕ) → ((x : Ans) → cost q x ≡ weight a → Bounded room bound (go (k x)))
    → (t : Taken) → Costs q a t → Bounded room bound (answered e go k t)
unfolding log_of
answered-bounded e go q k a room bound h (got x) c = h x c
answered-bounded e go q k a room bound h wrong c = record { fits = omega arith; enough = λ i. tt }

-- the next answer weighs what its operation may pay with
resumed-bounded : (e : World) (a : Answer) (go : ℕ → Prog Result → Run) (room : ℕ) (f : ℕ → ℕ) (m n : ℕ) → ((left : ℕ) (p : Prog Result) (g : ℕ → ℕ) → Pays Done g p → Bounded left (g n) (go left p))
    → (r : Rest) → RestPays room f m r → Bounded (room - m) (f (n + weight a) - m) (resumed e a go r)
unfolding log_of
resumed-bounded e a go room f m n h (ended r w) u = record { fits = omega arith; enough = λ i. tt }
resumed-bounded e a go room f m n h (refused x w) u = record { fits = omega arith; enough = λ i. tt }
resumed-bounded e a go room f m n h (paused left q k) u =
    let w : Bounded left (f (n + weight a) - m) (answered e (go left) k (taken_by q a)) =
    answered-bounded e (go left) q k a left (f (n + weight a) - m) (λ x c. rw c at (h left (k x) (λ j. f (j + cost q x) - m) (u.1 x))) (taken_by q a) (taken-costs q a)
    in
    record { fits = w.fits; enough = λ i. w.enough (omega (arith, i, u.0)) }
resumed-bounded e a go room f m n h full u = record { fits = omega arith; enough = λ i. omega (arith, i, u (n + weight a)) }

module _ (t : Turns) where
  turned-pays : (k : Fin Bool → World → Prog Result) → ((r : Fin Bool) (v : World) → Pays Done (after_loop r) (k r v)) → (r : Fin (Turn Bool)) (v : World) → Pays Done (FinQ TurnQ r) (turned poll_loop k r v)
  unfolding turned
  turned-pays k u (fine again) v = (tt, (λ n. omega arith, u))
  turned-pays k u (fine (out b)) v = u (fine b) v
  turned-pays k u (failed e) v = u (failed e) v

  turning-pays : (f : ℕ → ℕ) (w : World) (k : Fin Bool → World → Prog Result) → ((n : ℕ) → most n ≤ f n) → ((r : Fin Bool) (v : World) → Pays Done (after_loop r) (k r v))
      → (x : Ans) → Pays Done (paid (first poll_loop w.st) x f) (turning poll_loop w k x)
  turning-pays f w k h u x =
      let q = first poll_loop w.st in
      p-weaken Done (paid q x most) (paid q x f) (turning poll_loop w k x) (λ n. omega (arith, h (n + cost q x)))
      (p-bind (FinQ TurnQ) Done (paid q x most) (turned poll_loop k) (turned-pays k u) (attempt (body poll_loop x w)) (p-attempt TurnQ (paid q x most) (body poll_loop x w) (t.goes x w)))

  settle-pays : (room : ℕ) (p : Prog Result) (f : ℕ → ℕ) → Pays Done f p → SettledPays room f (settle room p)
  unfolding settle log_of
  settle-pays room (ret r w) f u = record { fits = λ n. omega arith; on = tt }
  settle-pays room (stop e w) f u = record { fits = λ n. omega arith; on = tt }
  settle-pays room (ask q k) f u = fitting-pays room f q (at (paused (room - words q) q k)) u.0 (paused-pays (room - words q) (λ n. f n - words q) q k u.1)
  settle-pays room (say q p) f u = fitting-pays room f q (settle (room - words q) p) u.0 (settle-pays (room - words q) p (λ n. f n - words q) u.1)
  settle-pays room (loop (stall_loop t0) w k) f u = absurd u.0
  settle-pays room (loop (reply_loop t0) w k) f u = absurd u.0
  settle-pays room (loop poll_loop w k) f u =
      let q = first poll_loop w.st in
      fitting-pays room f q (at (paused (room - words q) q (turning poll_loop w k))) (λ n. omega (arith, t.opens w n, u.1.0 n))
      (paused-pays (room - words q) (λ n. f n - words q) q (turning poll_loop w k) (turning-pays f w k u.1.0 u.1.1))
  settle-pays room (note m p) f u =
      let s = settle-pays room p f u in
      record { fits = s.fits; on = s.on }

  pub run-bounded : (e : World) (l : List Answer) (room : ℕ) (p : Prog Result) (f : ℕ → ℕ) → Pays Done f p → Bounded room (f (total l)) (run e l room p)
  unfolding run
  run-bounded e [] room p f u =
      let s = settle-pays room p f u in
      after-bounded room (f 0) (settle room p) (unanswered e (settle room p).rest) (s.fits 0) (unanswered-bounded e room f (log_length (settle room p).ops) 0 (settle room p).rest s.on)
  run-bounded e (a ∷ more) room p f u =
      let s = settle-pays room p f u in
      let go : ℕ → Prog Result → Run = λ left q. run e more left q in
      after-bounded room (f (total more + weight a)) (settle room p) (resumed e a go (settle room p).rest) (s.fits (total more + weight a))
      (resumed-bounded e a go room f (log_length (settle room p).ops) (total more) (λ left q g v. run-bounded e more left q g v) (settle room p).rest s.on)
