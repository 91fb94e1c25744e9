-- A sum over bytes in which each place counts.
use Rattle.std.specs.Prelude.{ℕ, ◌+◌, ◌*◌, ◌%◌, min, List, [], ◌∷◌, take, drop}
use Rattle.session_bytes.specs.Session.{session_in}

-- sums are below this
abbrev pub limit : ℕ
limit = 281474976710597

abbrev pub sum_next : ℕ → ℕ → ℕ
sum_next h n = (h * 4099 + n + 1) % 281474976710597

unfoldable pub sum_from : ℕ → List ℕ → ℕ
sum_from h [] = h
sum_from h (b ∷ s) = sum_from (sum_next h b) s

-- the bytes of the networks that were heard, 42 each, in a session's bytes
abbrev pub heard_bytes : List ℕ → List ℕ
heard_bytes b = take (42 * min (session_in b).list.count 32) (drop 49 b)
