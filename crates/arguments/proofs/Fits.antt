-- The laws of a variable's name: it ends before the first zero.
use mathlib.Core.Path.{◌≡◌, refl, ap, ◌∙◌}
use mathlib.Core.Bool.{Bool, true, false, cond}
use mathlib.Core.List.{List, [], ◌∷◌}
use Prim.Native.Nat.{ℕ, zero, suc, ◌+◌}
use lib.Dec.{ltb}
use lib.ListN.{length}
use native.Mathlib.Omega.{arith}
use borrow.Author.Tests.{ne_eqb}
use Rattle.std.specs.Prelude.{Some, None, ◌==◌}
use Rattle.std.specs.List.{position, position_or_len}
use Rattle.definition.specs.Player.{name_length}

name-is : (s : List ℕ) → position_or_len (λ b. b == 0) s ≡ name_length s
unfolding name_length
name-is [] = refl
name-is (zero ∷ s) = refl
name-is (suc x ∷ s) = rw (ne_eqb (suc x) 0 (λ e. omega arith)) (ap (λ (n : ℕ). 1 + n) (name-is s) ∙ omega arith)

found-by : (t : Bool) (k n : ℕ) → cond t (Some k) None ≡ Some n → (t ≡ true) × (k ≡ n)
found-by true k n h = (refl, cc)
found-by false k n h = absurd (cc)

none-by : (t : Bool) (k : ℕ) → cond t (Some k) None ≡ None → t ≡ false
none-by true k h = absurd (cc)
none-by false k h = refl

-- the zero after the name is there
pub name-found : (s : List ℕ) (n : ℕ) → position (λ b. b == 0) s ≡ Some n → (ltb (name_length s) (length s) ≡ true) × (name_length s ≡ n)
name-found s n h = found-by _ _ n (rw (name-is s) at h)

pub name-none : (s : List ℕ) → position (λ b. b == 0) s ≡ None → ltb (name_length s) (length s) ≡ false
name-none s h = none-by _ _ (rw (name-is s) at h)
