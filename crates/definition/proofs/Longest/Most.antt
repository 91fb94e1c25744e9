-- What is known of the bound.
use mathlib.Core.Path.{◌≡◌, refl}
use mathlib.Core.Bool.{Bool, true, false}
use Prim.Native.Nat.{ℕ, ◌+◌, ◌*◌, ◌/◌, ◌≤◌}
use native.Mathlib.Omega.{arith}
use borrow.Author.Tests.{eqb-true, eqb-false}
use lib.Dec.{eqb}
use Rattle.definition.specs.Longest.{most}

-- with n words left, what may be logged from where the status is about to be read
abbrev pub low : ℕ → ℕ
low n = 2 * (n / 2) + 1

-- m, with n words left, is between this and what one word more gives; one word brings a second operation
pub record Between (n m : ℕ) : Type 0 where
  pub above : low n ≤ m
  pub below : m ≤ low (n + 1)
  pub second : 1 ≤ n → 2 ≤ m
  pub within : m ≤ n + 1

pub most-between : (n : ℕ) → Between n (most n)
unfolding most
most-between n = go (eqb n 1) refl
  where
    go : (b : Bool) → eqb n 1 ≡ b → Between n (most n)
    go true e =
        let i : n ≡ 1 = eqb-true n 1 e in
        rw e (record { above = omega (arith, i); below = omega (arith, i); second = λ h. omega arith; within = omega (arith, i) })
    go false e =
        let i : n ≡ 1 → ⊥ = eqb-false n 1 e in
        rw e (record { above = omega arith; below = omega arith; second = λ h. omega (arith, i, h); within = omega arith })

pub most-up : (n m : ℕ) → n ≤ m → most n ≤ most m
most-up n m h = go (eqb n m) refl
  where
    go : (b : Bool) → eqb n m ≡ b → most n ≤ most m
    go true e = rw (eqb-true n m e) (omega arith)
    go false e = omega (arith, h, eqb-false n m e, (most-between n).below, (most-between m).above)

-- one word more than the recording has is enough
pub one_more : (n : ℕ) → most n ≤ n + 1
one_more n = (most-between n).within
