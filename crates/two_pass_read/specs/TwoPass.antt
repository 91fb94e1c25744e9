-- What the routine in two passes does, as it does it.
use Rattle.std.specs.Prelude.{ℕ, ◌*◌, ◌-◌, min, List, length, drop}
use Rattle.slices.specs.Over.{over}
use Rattle.slices.specs.Le.{bytes_of}

-- a read of n bytes of which these words were transferred: first the bytes of all words but the first; then, over what lies there,
-- the transfer's own from byte n on
unfoldable pub laid_twice : ℕ → List ℕ → List ℕ → List ℕ
laid_twice n ws b = over (over b 0 (bytes_of (drop 1 ws))) (min n (4 * length ws - 4)) (drop n (bytes_of ws))
