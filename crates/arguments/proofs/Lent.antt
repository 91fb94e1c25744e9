-- What a call lends lies in its arguments.
use Rattle.std.proofs.Common.{◌≡◌, ℕ, ◌+◌, ◌-◌, ◌≤◌, ◌<◌, min, List, [], length, take, drop, refl, sym, ap, ◌∙◌, arith, length-drop}
use Rattle.std.proofs.Math.ListN.{drop_of_length-le}
use Rattle.std.proofs.Math.Seq.{take-length, drop-drop}
use Rattle.std.proofs.lemmas.List.{take_min, length-take}
use Rattle.std.specs.List.{IsSplitAt}
use Rattle.slices.proofs.Over.{part-rest}
use Rattle.arguments.specs.Arguments.{LiesIn, IsEndOf}

pub nothing-lies : (a : List ℕ) → LiesIn a []
nothing-lies a = (0, omega arith, refl)

pub nothing-ends : (a : List ℕ) → IsEndOf a []
nothing-ends a = (length a, omega arith, sym (drop_of_length-le a (omega arith)))

pub whole-lies : (a : List ℕ) → LiesIn a a
whole-lies a = (0, omega arith, sym (take-length a))

pub whole-ends : (a : List ℕ) → IsEndOf a a
whole-ends a = (0, omega arith, refl)

pub split-ends : (a h r : List ℕ) (n : ℕ) → IsSplitAt a n h r → IsEndOf a r
split-ends a h r n p = (n, p.0, p.2)

-- of two splits, one after the other
pub front-lies : (a h r s t : List ℕ) (m n : ℕ) → IsSplitAt a m h r → IsSplitAt r n s t → LiesIn a s
front-lies a h r s t m n p q = (m, omega (arith, q.3, q.4, p.4), q.1 ∙ rw (q.3, p.2))

pub back-ends : (a h r s t : List ℕ) (m n : ℕ) → IsSplitAt a m h r → IsSplitAt r n s t → IsEndOf a t
back-ends a h r s t m n p q = (m + n, omega (arith, q.4, p.4), rw (q.2, p.2) (drop-drop n m a))

-- what stands before index n of what follows m, and what follows n
pub part-lies : (a h r : List ℕ) (m n : ℕ) → IsSplitAt a m h r → LiesIn a (take n r)
part-lies a h r m n p = (m, omega (arith, length-take n r, p.4), rw (length-take n r, ← p.2) (sym (take_min n r)))

pub rest-ends : (a h r : List ℕ) (m n : ℕ) → IsSplitAt a m h r → n < length r → IsEndOf a (take (length r - (n + 1)) (drop (n + 1) r))
rest-ends a h r m n p k = (m + (n + 1), omega (arith, p.4), rw (part-rest r (n + 1), p.2) (drop-drop (n + 1) m a))
