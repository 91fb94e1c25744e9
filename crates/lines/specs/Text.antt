-- The player's lines as bytes.
use Rattle.std.specs.Prelude.{ℕ, zero, suc, ◌/◌, ◌%◌, ◌≡◌, List, [], ◌∷◌, ◌++◌, ltb}
use Rattle.slices.specs.Pick.{pick}
use Rattle.io.specs.Digits.{hex_digit_ascii, last_digits}
use Rattle.definition.specs.Run.{End}
use Rattle.definition.specs.Player.{Line, line, bad_line}
use Rattle.session_bytes.specs.Session.{session_in}
use Rattle.run_end.specs.declared.RunEnd.{RunEnd}
use Rattle.run_end.specs.RunEnd.{Tells}

-- n in base ten, with f digits at most
unfoldable pub decimal_in : ℕ → ℕ → List ℕ
decimal_in zero n = []
decimal_in (suc f) n = pick (ltb n 10) (hex_digit_ascii n ∷ []) (decimal_in f (n / 10) ++ (hex_digit_ascii (n % 10) ∷ []))

-- 64 bits are 20 digits at most
unfoldable pub decimal : ℕ → List ℕ
decimal n = decimal_in 20 n

-- a word as eight hexadecimal digits
unfoldable pub hex : ℕ → List ℕ
hex w = last_digits 16 8 w

-- 'base ten, one space between, newline'
unfoldable pub row_of : List ℕ → List ℕ
row_of [] = 10 ∷ []
row_of (n ∷ []) = decimal n ++ (10 ∷ [])
row_of (n ∷ m ∷ ns) = decimal n ++ (32 ∷ row_of (m ∷ ns))

-- 'one word of eight hexadecimal digits a line'
unfoldable pub words_of : List ℕ → List ℕ
words_of [] = []
words_of (w ∷ ws) = (hex w ++ (10 ∷ [])) ++ words_of ws

unfoldable pub text_of : Line → List ℕ
text_of (line ns ws) = row_of ns ++ words_of ws
text_of bad_line = 98 ∷ 97 ∷ 100 ∷ 10 ∷ []

-- r, the log log' and the state in the session's bytes s are what e says
pub record Printed (e : End) (log' s : List ℕ) (r : RunEnd) : Type 0 where
  pub tells : Tells r e.outcome
  pub len : r.len ≡ e.len
  pub log : log' ≡ e.log
  pub state : (session_in s).st ≡ e.st
