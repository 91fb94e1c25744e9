-- The answers of a recording weigh no more than its words, and an operation takes one of its cost.
use mathlib.Core.Path.{◌≡◌, ap, sym}
use mathlib.Core.Bool.{◌||◌}
use mathlib.Core.List.{List, [], ◌∷◌}
use Prim.Native.Nat.{ℕ, zero, suc, ◌+◌, ◌-◌, ◌≤◌}
use native.Mathlib.Omega.{arith}
use borrow.Author.Tests.{leb-true}
use lib.Dec.{leb, eqb}
use lib.ListN.{length, take, get_or}
use lib.Seq.{get_or-take}
use Rattle.slices.proofs.Pick.{by-pick}
use Rattle.definition.specs.Bus.{Op, Answer, kind_of, size_of, answer_of, answers_from, Taken, got, wrong, taken_by}
use Rattle.definition.proofs.Answers.{answer_of-kinds, taken_by-by}
use Rattle.definition.proofs.Longest.Pays.{weigh, cost}

abbrev pub weight : Answer → ℕ
weight a = weigh a.kind

abbrev pub total : List Answer → ℕ
total [] = 0
total (a ∷ l) = total l + weight a

some : (k : ℕ) → 1 ≤ weigh k
some k = by-pick (λ (m : ℕ). 1 ≤ m) (eqb k 2) (λ e. omega arith) (λ e. omega arith)

-- an answer weighs no more than its head's kind says
answer-weight : (ws : List ℕ) → weight (answer_of ws) ≤ weigh (kind_of (get_or ws 0 0))
answer-weight ws =
    let head = kind_of (get_or ws 0 0) in
    answer_of-kinds (λ a. weight a ≤ weigh head) ws (some head) (λ k v n e. rw e (omega arith)) (λ e u. some head)

size-weight : (w : ℕ) → weigh (kind_of w) ≤ size_of w
unfolding size_of
size-weight w =
    by-pick (λ (m : ℕ). weigh (kind_of w) ≤ m) (eqb (kind_of w) 2) (λ e. rw e (omega arith))
    (λ e. rw e
    (by-pick (λ (m : ℕ). 1 ≤ m) (eqb (kind_of w) 3) (λ u. omega arith)
    (λ u. by-pick (λ (m : ℕ). 1 ≤ m) (eqb (kind_of w) 4 || eqb (kind_of w) 5) (λ v. omega arith) (λ v. omega arith))))

recorded-weight : (w : ℕ) (ws : List ℕ) → weight (answer_of (take (size_of w) (w ∷ ws))) ≤ size_of w
recorded-weight w ws =
    let i : 1 ≤ size_of w = omega (arith, size-weight w, some (kind_of w)) in
    let h : weight (answer_of (take (size_of w) (w ∷ ws))) ≤ weigh (kind_of w) = rw (get_or-take (size_of w) (w ∷ ws) 0 0 i) at (answer-weight (take (size_of w) (w ∷ ws))) in
    omega (arith, h, size-weight w)

pub answers-weight : (ws : List ℕ) (n : ℕ) → total (answers_from ws n) ≤ length ws - n
unfolding answers_from
answers-weight [] n = omega arith
answers-weight (w ∷ ws) zero =
    by-pick (λ (l : List Answer). total l ≤ length (w ∷ ws) - 0) (leb (size_of w) (length (w ∷ ws)))
    (λ e. omega (arith, leb-true (size_of w) (length (w ∷ ws)) e, answers-weight ws (size_of w - 1), recorded-weight w ws, size-weight w, some (kind_of w)))
    (λ e. omega arith)
answers-weight (w ∷ ws) (suc n) = omega (arith, answers-weight ws n)

-- ---- what is taken

abbrev pub Costs : Op → Answer → Taken → Type 0
Costs q a (got x) = cost q x ≡ weight a
Costs q a wrong = Unit {0}

pub taken-costs : (q : Op) (a : Answer) → Costs q a (taken_by q a)
taken-costs q a = taken_by-by (Costs q a) q a tt (λ e. ap weigh (sym e)) (λ e. ap weigh (sym e))
