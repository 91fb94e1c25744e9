-- The laws of the sums.
use mathlib.Core.Path.{◌≡◌, refl}
use mathlib.Core.List.{List, [], ◌∷◌, ◌++◌}
use Prim.Native.Nat.{ℕ, ◌+◌, ◌*◌, ◌-◌, ◌<◌, min}
use native.Mathlib.Numerals.{add-one}
use native.Mathlib.Omega.{arith}
use lib.ListN.{length, take, get_or}
use lib.Seq.{take-suc}
use Rattle.shown.specs.Sum.{sum_next, sum_from}

from-append : (h : ℕ) (a b : List ℕ) → sum_from h (a ++ b) ≡ sum_from (sum_from h a) b
unfolding sum_from
from-append h [] b = refl
from-append h (x ∷ a) b = from-append (sum_next h x) a b

-- one byte more
pub from_more : (h : ℕ) (s : List ℕ) (i : ℕ) → i < length s → sum_from h (take (i + 1) s) ≡ sum_next (sum_from h (take i s)) (get_or s i 0)
unfolding sum_from
from_more h s i l = rw (add-one i, take-suc s i 0 l, from-append)

-- n: how many records there are
pub heard-end : (a n h : ℕ) → n ≡ a → h ≡ min n 32 → 49 + 42 * h - 49 ≡ 42 * min a 32
heard-end a n h p q = rw (q, p) (omega arith)
