-- The laws of the player's lines.
use mathlib.Core.Path.{◌≡◌, refl, ap, sym, ◌∙◌}
use mathlib.Core.Bool.{Bool, true, false}
use mathlib.Core.List.{List, [], ◌∷◌, ◌++◌, append_assoc, append-nil}
use Prim.Native.Nat.{ℕ, zero, suc, ◌+◌, ◌*◌, ◌-◌, ◌/◌, ◌%◌, ◌^◌, ◌≤◌, ◌<◌, min}
use native.Mathlib.Nat.{pow-le-pow_right, pow-suc}
use native.Mathlib.Numerals.{add-one}
use native.Mathlib.Omega.{arith}
use lib.Dec.{ltb}
use lib.ListN.{length, take, get_or, length-append, length-take}
use lib.Seq.{take-suc, take_all, take-append_seam, take-take}
use borrow.Author.Tests.{lt-ltb, le-ltb, ltb-true, ltb-false}
use Rattle.definition.specs.Player.{line}
use Rattle.io.specs.Digits.{hex_digit_ascii, last_digits, IsDigitCount}
use Rattle.slices.specs.Over.{over}
use Rattle.slices.proofs.Over.{over-append, over-parts, Run}
use Rattle.lines.specs.Text.{decimal_in, decimal, hex, row_of, words_of, text_of}

pub length_digits : (b k n : ℕ) → length (last_digits b k n) ≡ k
length_digits b zero n = refl
length_digits b (suc k) n = omega (arith, length-append (last_digits b k (n / b)) (hex_digit_ascii (n % b) ∷ []), length_digits b k (n / b))

-- the fewest digits are those of `decimal_in`
pub decimal-is : (k f n : ℕ) → IsDigitCount 10 1 n k → k ≤ f → last_digits 10 k n ≡ decimal_in f n
unfolding decimal_in
decimal-is zero f n h l = absurd (omega arith)
decimal-is (suc k) zero n h l = absurd (omega arith)
decimal-is (suc zero) (suc f) n h l =
    let s : n < 10 = h.1 in
    let e : n % 10 ≡ n = omega arith in
    rw (e, lt-ltb n 10 s)
decimal-is (suc (suc k)) (suc f) n h l =
    let p : 10 ^ suc k ≡ 10 ^ k * 10 = pow-suc 10 k in
    let q : 10 ^ suc (suc k) ≡ 10 ^ suc k * 10 = pow-suc 10 (suc k) in
    let less : suc (suc k) - 1 ≡ suc k = omega arith in
    let low : 10 ^ suc k ≤ n = rw less at (h.2 (omega arith)) in
    let pos : 1 ≤ 10 ^ k = pow-le-pow_right {n = 10} (omega arith) {i = 0} {j = k} (omega arith) in
    let high : n < 10 ^ suc (suc k) = h.1 in
    let same : suc k - 1 ≡ k = omega arith in
    let b : 10 ^ (suc k - 1) ≤ n / 10 = rw same (omega arith) in
    rw (le-ltb n 10 (omega arith))
    (ap (λ (t : List ℕ). t ++ (hex_digit_ascii (n % 10) ∷ [])) (decimal-is (suc k) f (n / 10) (omega arith, omega arith, λ j. b) (omega arith)))

-- no more digits than hold the number
places-by : (b l m n k : ℕ) → 0 < b → n < b ^ m → l ≤ m → IsDigitCount b l n k → (t : Bool) → ltb m k ≡ t → k ≤ m
places-by b l m n k z s u h true e =
    let more : m < k = ltb-true m k e in
    let low : b ^ (k - 1) ≤ n = h.2 (omega arith) in
    let p : b ^ m ≤ b ^ (k - 1) = pow-le-pow_right {n = b} z {i = m} {j = k - 1} (omega arith) in
    absurd (omega arith)
places-by b l m n k z s u h false e = ltb-false m k e

-- 64 bits are 20 digits at most in base 10, 32 bits are 8 in base 16
pub twenty : (n k : ℕ) → n < 18446744073709551616 → IsDigitCount 10 1 n k → k ≤ 20
twenty n k s h = places-by 10 1 20 n k (omega arith) (omega arith) (omega arith) h (ltb 20 k) refl

pub eight : (n k : ℕ) → n < 4294967296 → IsDigitCount 16 8 n k → k ≡ 8
eight n k s h =
    let l : k ≤ 8 = places-by 16 8 8 n k (omega arith) s (omega arith) h (ltb 8 k) refl in
    omega (arith, h.0)

-- the digits that `io` puts are these
decimal-of : (k n : ℕ) → n < 18446744073709551616 → IsDigitCount 10 1 n k → last_digits 10 k n ≡ decimal n
unfolding decimal
decimal-of k n s h = decimal-is k 20 n h (twenty n k s h)

hex-of : (k n : ℕ) → n < 4294967296 → IsDigitCount 16 8 n k → last_digits 16 k n ≡ hex n
unfolding hex
hex-of k n s h = rw (eight n k s h)

pub decimal-length : (k n : ℕ) → n < 18446744073709551616 → IsDigitCount 10 1 n k → k ≡ length (decimal n)
decimal-length k n s h = sym (length_digits 10 k n) ∙ ap length (decimal-of k n s h)

pub length-hex : (w : ℕ) → length (hex w) ≡ 8
unfolding hex
length-hex w = length_digits 16 8 w

-- the digits laid down, and then what stands after them
pub decimal-laid : (d e f ds : List ℕ) (at k n : ℕ) (t : List ℕ) → n < 18446744073709551616 → IsDigitCount 10 1 n k → ds ≡ last_digits 10 k n
    → e ≡ over d at ds → f ≡ over e (at + k) t → f ≡ over d at (decimal n ++ t)
decimal-laid d e f ds at k n t s h es ee ef =
    let is : ds ≡ decimal n = es ∙ decimal-of k n s h in
    rw (ef, ee, is, decimal-length k n s h, over-append)

pub hex-laid : (d e f ds : List ℕ) (at k n : ℕ) (t : List ℕ) → n < 4294967296 → IsDigitCount 16 8 n k → ds ≡ last_digits 16 k n
    → e ≡ over d at ds → f ≡ over e (at + k) t → f ≡ over d at (hex n ++ t)
hex-laid d e f ds at k n t s h es ee ef =
    let is : ds ≡ hex n = es ∙ hex-of k n s h in
    let l : k ≡ length (hex n) = eight n k s h ∙ sym (length-hex n) in
    rw (ef, ee, is, l, over-append)

-- ---- a row of numbers

-- numbers in base ten, a space after each
unfoldable pub spaced : List ℕ → List ℕ
spaced [] = []
spaced (n ∷ ns) = decimal n ++ (32 ∷ spaced ns)

spaced-append : (a b : List ℕ) → spaced (a ++ b) ≡ spaced a ++ spaced b
unfolding spaced
spaced-append [] b = refl
spaced-append (n ∷ a) b = rw (spaced-append a b, append_assoc)

pub spaced-more : (ns : List ℕ) (i : ℕ) → i < length ns → spaced (take (i + 1) ns) ≡ spaced (take i ns) ++ (decimal (get_or ns i 0) ++ (32 ∷ []))
unfolding spaced
spaced-more ns i h = rw (add-one, take-suc ns i 0, spaced-append)

pub row_is : (ns : List ℕ) (k : ℕ) → length ns ≡ suc k → row_of ns ≡ spaced (take k ns) ++ (decimal (get_or ns k 0) ++ (10 ∷ []))
unfolding spaced row_of
row_is [] k h = absurd (omega arith)
row_is (n ∷ []) zero h = refl
row_is (n ∷ []) (suc k) h = absurd (omega arith)
row_is (n ∷ m ∷ ns) zero h = absurd (omega arith)
row_is (n ∷ m ∷ ns) (suc k) h = rw (row_is (m ∷ ns) k (omega arith), append_assoc)

-- how long they are
pub spaced-long : (ns : List ℕ) (i at r : ℕ) → i < length ns → at ≡ length (spaced (take i ns)) → r ≡ at + length (decimal (get_or ns i 0) ++ (32 ∷ []))
    → r ≡ length (spaced (take (i + 1) ns))
spaced-long ns i at r h ea er = rw (er, ea, spaced-more ns i h) (sym (length-append (spaced (take i ns)) (decimal (get_or ns i 0) ++ (32 ∷ []))))

-- the last number's end closes the row
pub row-long : (ns : List ℕ) (i k at r : ℕ) → length ns ≡ suc k → i ≡ k → at ≡ length (spaced (take i ns))
    → r ≡ at + length (decimal (get_or ns k 0) ++ (10 ∷ [])) → r ≡ length (row_of ns)
row-long ns i k at r h ei ea er =
    rw (er, ea, ei, row_is ns k h) (sym (length-append (spaced (take k ns)) (decimal (get_or ns k 0) ++ (10 ∷ []))))

pub row_laid : (d e f ns : List ℕ) (i k at : ℕ) → length ns ≡ suc k → i ≡ k → at ≡ length (spaced (take i ns))
    → Run d 0 (spaced (take i ns)) e → f ≡ over e at (decimal (get_or ns k 0) ++ (10 ∷ [])) → f ≡ over d 0 (row_of ns)
row_laid d e f ns i k at h ei ea r ef =
    let z : at ≡ 0 + length (spaced (take i ns)) = omega arith in
    rw (ef, z, r.is, over-append, ei, row_is ns k h)

-- ---- the words of a log

words_append : (a b : List ℕ) → words_of (a ++ b) ≡ words_of a ++ words_of b
unfolding words_of
words_append [] b = refl
words_append (w ∷ a) b = simp (words_append a b, append_assoc)

pub words_more : (ws : List ℕ) (i : ℕ) → i < length ws → words_of (take (i + 1) ws) ≡ words_of (take i ws) ++ (hex (get_or ws i 0) ++ (10 ∷ []))
unfolding words_of
words_more ws i h = rw (add-one, take-suc ws i 0, words_append, append-nil)

pub length-words : (ws : List ℕ) → length (words_of ws) ≡ 9 * length ws
unfolding words_of
length-words [] = refl
length-words (w ∷ ws) = omega (arith, length-words ws, length-append (hex w ++ (10 ∷ [])) (words_of ws), length-append (hex w) (10 ∷ []), length-hex w)

-- ---- a call's lines

taken : (len : ℕ) (log : List ℕ) (n : ℕ) → n ≡ min len (length log) → take n log ≡ take len log
taken len log n e = sym (take-take n len log (omega arith)) ∙ take_all n (take len log) (omega (arith, length-take len log))

take-over : (d s : List ℕ) → length s ≤ length d → take (length s) (over d 0 s) ≡ s
take-over d s h = rw (over-parts d 0 s (omega arith)) (take-append_seam s _)

-- a row and words that were laid down are the line's text; as much of the log is there as the length says, or all of it
pub lines-laid : (d e f log ns : List ℕ) (n len at k : ℕ) → e ≡ over d 0 (row_of ns) → at ≡ length (row_of ns)
    → n ≡ min len (length log) → f ≡ over e at (words_of (take n log)) → k ≡ at + 9 * length (take n log) → k ≤ length d
    → take k f ≡ text_of (line ns (take len log))
unfolding text_of
lines-laid d e f log ns n len at k ee ea en ef ek l =
    let t : take n log ≡ take len log = taken len log n en in
    let z : at ≡ 0 + length (row_of ns) = omega arith in
    let w : f ≡ over d 0 (row_of ns ++ words_of (take len log)) = rw (ef, ee, z, t, over-append d 0 (row_of ns) (words_of (take len log))) in
    let m : k ≡ length (row_of ns ++ words_of (take len log)) = rw (ek, ea, t, length-append, length-words) in
    rw (w, m) (take-over d (row_of ns ++ words_of (take len log)) (omega arith))
