-- What was read is what `next_call` finds.
use mathlib.Core.Path.{◌≡◌, refl, sym}
use mathlib.Core.Bool.{Bool, true, false, ◌&&◌, not}
use mathlib.Core.List.{List, ◌∷◌, ◌++◌}
use Prim.Native.Nat.{ℕ, ◌+◌, ◌-◌}
use native.Mathlib.Omega.{arith}
use lib.Dec.{ltb, leb, eqb}
use lib.ListN.{length, take, drop, get_or, length-append, length-take}
use lib.Seq.{take_at, drop_at, get_or_at, drop-drop}
use borrow.Author.Tests.{ltb-true, ltb-false, le-leb, lt-leb, eq-eqb, ne_eqb, eqb-true, eqb-false}
use Rattle.slices.specs.Pick.{pick}
use Rattle.slices.specs.Le.{le32_at, words_for, bytes_of}
use Rattle.slices.proofs.Le.{length-bytes_of}
use Rattle.definition.specs.Player.{bad, one, next_call}
use Rattle.lines.specs.Input.{is_call, output_length}

-- `2048 < v` fails where `v <= 2048` holds
above-by : (v : ℕ) (t : Bool) → ltb 2048 v ≡ t → not t ≡ leb v 2048
above-by v true e = sym (lt-leb v 2048 (ltb-true 2048 v e))
above-by v false e = sym (le-leb v 2048 (ltb-false 2048 v e))

-- the output's length is tested where there is one
output-by : (p q : Bool) (v : ℕ) → not (p && (q && ltb 2048 v)) ≡ leb (pick (p && q) v 0) 2048
output-by true true v = above-by v (ltb 2048 v) refl
output-by true false v = refl
output-by false q v = refl

eighth-by : (h : ℕ) (t : Bool) → eqb h 0xF0000008 ≡ t → t ≡ eqb (h - 0xF0000000) 8
eighth-by h true e = sym (eq-eqb (h - 0xF0000000) 8 (omega (arith, eqb-true h 0xF0000008 e)))
eighth-by h false e = sym (ne_eqb (h - 0xF0000000) 8 (λ k. eqb-false h 0xF0000008 e (omega arith)))

output-fits : (h count : ℕ) (a : List ℕ) → length a ≡ count
    → not (eqb h 0xF0000008 && (eqb count 4 && ltb 2048 (le32_at a 0))) ≡ leb (output_length (h - 0xF0000000) a) 2048
output-fits h count a e = rw (← e, eighth-by h (eqb h 0xF0000008) refl) (output-by (eqb (h - 0xF0000000) 8) (eqb (length a) 4) (le32_at a 0))

regrouped : (a b x : Bool) → (a && (b && x)) ≡ ((a && b) && x)
regrouped true b x = refl
regrouped false b x = refl

-- `next_call` on words that are all there
module _ (h count n : ℕ) (aw recording more : List ℕ) (padded : length aw ≡ words_for count) (whole : length recording ≡ n) where
  abbrev bytes : List ℕ
  bytes = take count (bytes_of aw)

  abbrev rest : List ℕ
  rest = aw ++ (n ∷ recording ++ more)

  sized : length bytes ≡ count
  sized = omega (arith, length-take count (bytes_of aw), length-bytes_of aw)

  pub next-is : next_call (h ∷ count ∷ rest)
      ≡ pick (is_call h && (leb count 2048 && (leb n 4096 && leb (output_length (h - 0xF0000000) bytes) 2048)))
      (one (h - 0xF0000000) bytes recording more)
      bad
  unfolding next_call
  next-is =
      let m : ℕ = words_for count in
      let ws : List ℕ = count ∷ rest in
      let long : length (count ∷ aw) ≡ 1 + m = omega arith in
      let number : get_or ws (1 + m) 0 ≡ n = get_or_at (count ∷ aw) n (recording ++ more) 0 (1 + m) long in
      let front : take m rest ≡ aw = take_at aw (n ∷ recording ++ more) m padded in
      let from : drop (1 + m) ws ≡ n ∷ (recording ++ more) = drop_at (count ∷ aw) (n ∷ recording ++ more) (1 + m) long in
      let next : 2 + m ≡ (1 + m) + 1 = omega arith in
      let past : drop (2 + m) ws ≡ recording ++ more = rw (next, ← drop-drop 1 (1 + m) ws, from) in
      let last : drop (2 + m + n) ws ≡ more = rw (← drop-drop n (2 + m) ws, past) (drop_at recording more n whole) in
      let there : leb (2 + m + n) (length ws) ≡ true =
      le-leb (2 + m + n) (length ws) (omega (arith, length-append aw (n ∷ recording ++ more), length-append recording more)) in
      rw (number, front, past, last, there, take_at recording more n whole, output-fits h count bytes sized, regrouped (ltb 0xF0000000 h) (leb h 0xF000000E))
