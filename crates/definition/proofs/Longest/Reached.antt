-- Each bound is reached, for recordings of 0 to 64 words. The checker computes all rows from the definition.
use mathlib.Core.Path.{◌≡◌, refl}
use mathlib.Core.List.{map}
use Prim.Native.Nat.{ℕ}
use lib.ListN.{length, take, replicate}
use Rattle.definition.specs.Open.{opened}
use Rattle.definition.specs.Longest.{table, most, busy, recorded, example, reached, short_of, counting, zero_to64}

-- the recordings have 0 to 64 words
pub lengths : map (λ (n : ℕ). length (take n recorded)) zero_to64 ≡ zero_to64
unfolding recorded busy counting
lengths = refl

-- the logs that they leave are the table
pub reached-all : map reached zero_to64 ≡ table
unfolding example recorded busy counting table opened
reached-all = refl

-- which is the bound
pub bounds : map most zero_to64 ≡ table
unfolding most counting table
bounds = refl

-- a log that is a word shorter is refused with 12
pub needed-all : map short_of zero_to64 ≡ replicate 65 12
unfolding example recorded busy counting opened
needed-all = refl
