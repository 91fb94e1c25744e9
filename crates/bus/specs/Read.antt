-- A read's bytes one by one.
use Rattle.std.specs.Prelude.{ℕ, ◌+◌, List, ltb, length, get_or}
use Rattle.slices.specs.Pick.{pick}

-- 'buffer byte i is T[i+4] for i < n, T[i] for n <= i < length of T, else unchanged': byte i of buffer b after a read of n bytes
abbrev pub byte_after : ℕ → List ℕ → List ℕ → ℕ → ℕ
byte_after n T b i = pick (ltb i n) (get_or T (i + 4) 0) (pick (ltb i (length T)) (get_or T i 0) (get_or b i 0))
