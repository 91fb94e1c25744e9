-- The laws of what a read lays.
use mathlib.Core.Path.{◌≡◌, refl, sym, ap, ◌∙◌}
use mathlib.Core.List.{List, [], ◌∷◌, ◌++◌, append_assoc}
use Prim.Native.Nat.{ℕ, zero, suc, ◌+◌, ◌*◌, ◌-◌, ◌/◌, ◌%◌, ◌^◌, ◌≤◌, ◌<◌}
use native.Mathlib.Nat.{zero-add}
use native.Mathlib.Numerals.{add-one}
use native.Mathlib.Omega.{arith}
use lib.Dec.{ltb}
use lib.ListN.{length, take, drop, get_or, length-take, length-drop, length-append, drop_of_length-le, get_or-append}
use lib.Seq.{take-add, drop-drop, drop-cons, drop-append-le, get_or-drop, get_or-append-add, ext_get_or}
use borrow.Author.Tests.{ltb-true, ltb-false}
use Rattle.slices.specs.Over.{over}
use Rattle.slices.specs.Le.{le32, words_for, round4, bytes_of}
use Rattle.slices.proofs.Pick.{by-pick}
use Rattle.slices.proofs.Over.{length_over, get_or-over-in, get_or-over-after, get_or_part, Run, run_none, run_more}
use Rattle.slices.proofs.Le.{length-bytes_of, bytes_of-take, bytes_of-drop}
use Rattle.definition.specs.Device.{landed}
use Rattle.bus.specs.Read.{byte_after}

-- ---- a word that has r bytes of the next

-- 256 ^ r, as a shift computes it
abbrev pub unit : ℕ → ℕ
unit r = 1 * 2 ^ (8 * r) % 4294967296

abbrev pub seam : ℕ → ℕ → ℕ → ℕ
seam own next r = own / unit r * unit r + next % unit r

pub unit-some : (r : ℕ) → r < 4 → 0 < unit r
unit-some zero h = omega arith
unit-some (suc zero) h = omega arith
unit-some (suc (suc zero)) h = omega arith
unit-some (suc (suc (suc zero))) h = omega arith
unit-some (suc (suc (suc (suc r)))) h = absurd (omega arith)

pub seam-fits : (own next r : ℕ) → own < 4294967296 → r < 4 → seam own next r < 4294967296
seam-fits own next zero h k = omega arith
seam-fits own next (suc zero) h k = omega arith
seam-fits own next (suc (suc zero)) h k = omega arith
seam-fits own next (suc (suc (suc zero))) h k = omega arith
seam-fits own next (suc (suc (suc (suc r)))) h k = absurd (omega arith)

four : {a b c d e f g h : ℕ} → a ≡ e → b ≡ f → c ≡ g → d ≡ h → a ∷ b ∷ c ∷ d ∷ [] ≡ e ∷ f ∷ g ∷ h ∷ []
four p q r s = rw (p, q, r, s)

pub seam-bytes : (own next r : ℕ) → r < 4 → le32 (seam own next r) ≡ take r (le32 next) ++ drop r (le32 own)
seam-bytes own next zero h = four (omega arith) (omega arith) (omega arith) (omega arith)
seam-bytes own next (suc zero) h = four (omega arith) (omega arith) (omega arith) (omega arith)
seam-bytes own next (suc (suc zero)) h = four (omega arith) (omega arith) (omega arith) (omega arith)
seam-bytes own next (suc (suc (suc zero))) h = four (omega arith) (omega arith) (omega arith) (omega arith)
seam-bytes own next (suc (suc (suc (suc r)))) h = absurd (omega arith)

-- ---- the runs that are laid, one after the other

last_one : (ws : List ℕ) (q : ℕ) → length ws ≡ q + 1 → drop q ws ≡ get_or ws q 0 ∷ []
last_one ws q h =
    let k : length ws ≤ suc q = omega arith in
    drop-cons ws q 0 (omega arith) ∙ ap (λ (l : List ℕ). get_or ws q 0 ∷ l) (drop_of_length-le ws k)

last-two : (ws : List ℕ) (q : ℕ) → length ws ≡ q + 2 → drop q ws ≡ get_or ws q 0 ∷ get_or ws (q + 1) 0 ∷ []
last-two ws q h = drop-cons ws q 0 (omega arith) ∙ ap (λ (l : List ℕ). get_or ws q 0 ∷ l) (rw (add-one q) (last_one ws (suc q) (omega arith)))

-- the bytes that a read of n lays, where it ends r bytes into a word: whole words moved, then r bytes of the next, then what is left
split : (ws : List ℕ) (n q r : ℕ) → n ≡ 4 * q + r → take n (drop 4 (bytes_of ws)) ++ drop n (bytes_of ws)
    ≡ bytes_of (take q (drop 1 ws)) ++ (take r (bytes_of (drop (1 + q) ws)) ++ drop r (bytes_of (drop q ws)))
split ws n q r e =
    let moved : drop 4 (bytes_of ws) ≡ bytes_of (drop 1 ws) = sym (bytes_of-drop 1 ws) in
    let front : take (4 * q + r) (bytes_of (drop 1 ws)) ≡ bytes_of (take q (drop 1 ws)) ++ take r (bytes_of (drop (1 + q) ws)) = rw (take-add, ← bytes_of-take, ← bytes_of-drop, drop-drop) in
    let rest : drop (4 * q + r) (bytes_of ws) ≡ drop r (bytes_of (drop q ws)) = rw (← drop-drop r (4 * q) (bytes_of ws), ← bytes_of-drop) in
    rw (moved, e, front, rest, append_assoc)

-- a buffer b after the moved words, after the word at n: a read of whole words
pub laid-whole : {c d : List ℕ} (b ws : List ℕ) (n k : ℕ) → n % 4 ≡ 0 → length ws ≡ 1 + words_for n → k ≡ n / 4
    → c ≡ over b 0 (bytes_of (take k (drop 1 ws))) → d ≡ over c n (le32 (get_or ws (n / 4) 0)) → d ≡ landed n (bytes_of ws) b
unfolding landed bytes_of
laid-whole {c} {d} b ws n k e h f p q =
    let j = n / 4 in
    let A = bytes_of (take j (drop 1 ws)) in
    let p' : c ≡ over b 0 A = rw f at p in
    let o : n ≡ 0 + length A = omega (arith, length-bytes_of (take j (drop 1 ws)), length-take j (drop 1 ws), length-drop 1 ws) in
    let r : Run b 0 (A ++ le32 (get_or ws j 0)) d = run_more _ (run_more _ run_none refl p') o q in
    rw (split ws n j 0 (omega arith), last_one ws j (omega arith)) r.is

-- after the moved words, after the word w across byte n, after the last word: a read that ends inside a word
pub laid-seam : {c d e : List ℕ} (b ws : List ℕ) (n k w : ℕ) → (n % 4 ≡ 0 → ⊥) → length ws ≡ 1 + words_for n → k ≡ n / 4
    → c ≡ over b 0 (bytes_of (take k (drop 1 ws)))
    → le32 w ≡ take (n % 4) (le32 (get_or ws (n / 4 + 1) 0)) ++ drop (n % 4) (le32 (get_or ws (n / 4) 0)) → d ≡ over c (4 * (n / 4)) (le32 w)
    → e ≡ over d (4 * (n / 4) + 4) (le32 (get_or ws (n / 4 + 1) 0)) → e ≡ landed n (bytes_of ws) b
unfolding landed bytes_of
laid-seam {c} {d} {e} b ws n k w m h f p s q r =
    let j = n / 4 in
    let A = bytes_of (take j (drop 1 ws)) in
    let own = le32 (get_or ws j 0) in
    let next = le32 (get_or ws (j + 1) 0) in
    let p' : c ≡ over b 0 A = rw f at p in
    let a : length A ≡ 4 * j = omega (arith, length-bytes_of (take j (drop 1 ws)), length-take j (drop 1 ws), length-drop 1 ws) in
    let u : Run b 0 (A ++ le32 w) d = run_more _ (run_more _ run_none refl p') (omega (arith, a)) q in
    let v : Run b 0 ((A ++ le32 w) ++ next) e = run_more _ u (omega (arith, a, length-append A (le32 w))) r in
    let x : 1 + j ≡ j + 1 = omega arith in
    let y : (A ++ (take (n % 4) next ++ drop (n % 4) own)) ++ next ≡ A ++ (take (n % 4) next ++ (drop (n % 4) own ++ next)) = rw (append_assoc, append_assoc) in
    rw (split ws n j (n % 4) (omega arith), x, last_one ws (j + 1) (omega arith), last-two ws j (omega arith), drop-append-le (n % 4) own next (omega arith)) (rw (s, y) at v.is)

-- ---- byte by byte

module _ (n : ℕ) (T b : List ℕ) (e : length T ≡ 4 + round4 n) where
  abbrev asked : List ℕ
  asked = take n (drop 4 T)

  asked-length : length asked ≡ n
  asked-length = omega (arith, length-take n (drop 4 T), length-drop 4 T)

  all-length : length (asked ++ drop n T) ≡ length T
  all-length = omega (arith, asked-length, length-append asked (drop n T), length-drop n T)

  laid-byte : (i : ℕ) → i < length b → i < length T → get_or (landed n T b) i 0 ≡ get_or (asked ++ drop n T) i 0
  unfolding landed
  laid-byte i h k = rw (zero-add i) at (get_or-over-in b 0 (asked ++ drop n T) i 0 (omega arith) (omega (arith, all-length)))

  moved-byte : (i : ℕ) → i < length b → i < n → get_or (landed n T b) i 0 ≡ get_or T (i + 4) 0
  moved-byte i h k =
      let c : 4 + i ≡ i + 4 = omega arith in
      rw (laid-byte i h (omega arith), get_or-append asked (drop n T) 0 i (omega (arith, asked-length)), get_or_part T 4 n i 0 k, c)

  own-byte : (i : ℕ) → i < length b → n ≤ i → i < length T → get_or (landed n T b) i 0 ≡ get_or T i 0
  own-byte i h k l =
      let p : i ≡ length asked + (i - n) = omega (arith, asked-length) in
      let q : n + (i - n) ≡ i = omega arith in
      laid-byte i h l ∙ (ap (λ (m : ℕ). get_or (asked ++ drop n T) m 0) p ∙ (get_or-append-add asked (drop n T) (i - n) 0 ∙ rw (get_or-drop, q)))

  past-byte : (i : ℕ) → length T ≤ i → get_or (landed n T b) i 0 ≡ get_or b i 0
  unfolding landed
  past-byte i k = get_or-over-after b 0 (asked ++ drop n T) i 0 (omega (arith, all-length))

-- 'A read of n bytes transfers T, 4 + n rounded up to 4 bytes. Afterwards buffer byte i is T[i+4] for i < n, T[i] for n <= i <
-- length of T, else unchanged.'
pub landed-bytes : (n : ℕ) (T b : List ℕ) (i : ℕ) → length T ≡ 4 + round4 n → i < length b → get_or (landed n T b) i 0 ≡ byte_after n T b i
landed-bytes n T b i e h =
    let P : ℕ → Type 0 = λ x. get_or (landed n T b) i 0 ≡ x in
    by-pick P (ltb i n) (λ t. moved-byte n T b e i h (ltb-true i n t))
    (λ t. by-pick P (ltb i (length T)) (λ u. own-byte n T b e i h (ltb-false i n t) (ltb-true i (length T) u)) (λ u. past-byte n T b e i (ltb-false i (length T) u)))

-- and nothing else is as long as the buffer and has these bytes
pub landed-only : (n : ℕ) (T b c : List ℕ) → length T ≡ 4 + round4 n → length c ≡ length b
    → ((i : ℕ) → i < length b → get_or c i 0 ≡ byte_after n T b i) → c ≡ landed n T b
unfolding landed
landed-only n T b c e l f =
    ext_get_or 0 c (landed n T b) (l ∙ sym (length_over b 0 _)) (λ i h. f i (omega arith) ∙ sym (landed-bytes n T b i e (omega arith)))
