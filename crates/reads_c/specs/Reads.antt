-- What a read transfers.
use Rattle.std.specs.Prelude.{ℕ, ◌+◌, Bool, List, eqb, length}
use Rattle.slices.specs.Le.{words_for}

-- 'A read of n bytes transfers T, 4 + n rounded up to 4 bytes.'
abbrev pub is_transfer : ℕ → List ℕ → Bool
is_transfer n ws = eqb (length ws) (1 + words_for n)
