-- What is kept of a session (1,393 bytes, its records from byte 49 on) and of a work buffer (2,048 bytes), in 3,444 bytes u:
-- byte 0 and 1 count the work buffer's kept bytes, byte 2 is 1 where the records are kept; from byte 3 on the session's first 49
-- bytes, from 52 on its records, from 1,396 on the work buffer's first bytes.
use Rattle.std.specs.Prelude.{ℕ, ◌%◌, ◌≤◌, ◌≡◌, Bool, List, eqb, length, take, drop, get_or}
use Rattle.slices.specs.Pick.{pick}
use Rattle.slices.specs.Over.{over}
use Rattle.slices.specs.Le.{le16_at}

-- how many bytes of the work buffer are kept
abbrev pub kept_of : List ℕ → ℕ
kept_of u = le16_at u 0

-- the session's records are kept
abbrev pub records_kept : List ℕ → Bool
records_kept u = eqb (get_or u 2 0) 1

-- s with its first 49 bytes put back
abbrev pub back_front : List ℕ → List ℕ → List ℕ
back_front u s = over s 0 (take 49 (drop 3 u))

-- the session s with all that is kept put back
unfoldable pub back_session : List ℕ → List ℕ → List ℕ
back_session u s = pick (records_kept u) (over (back_front u s) 49 (take 1344 (drop 52 u))) (back_front u s)

-- the work buffer b with all that is kept put back
unfoldable pub back_buf : List ℕ → List ℕ → List ℕ
back_buf u b = over b 0 (take (kept_of u) (drop 1396 u))

-- u is laid out so; the work buffer is kept in steps of 8 bytes
pub record Kept (u : List ℕ) : Type 0 where
  pub len : length u ≡ 3444
  pub most : kept_of u ≤ 2048
  pub whole : kept_of u % 8 ≡ 0
