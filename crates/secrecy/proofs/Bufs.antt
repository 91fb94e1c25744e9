-- Two lists of bytes, alike at an index or not; what laying and cutting do to that.
use mathlib.Core.Path.{◌≡◌, refl, sym, ◌∙◌}
use mathlib.Core.Bool.{Bool, true, false}
use mathlib.Core.List.{[], ◌∷◌}
use mathlib.Core.Logic.{◌⊎◌, inl, inr}
use Prim.Native.Nat.{ℕ, zero, suc, ◌+◌, ◌-◌, ◌≤◌, ◌<◌}
use native.Mathlib.Nat.{add-zero}
use native.Mathlib.Omega.{arith}
use native.Mathlib.Decide.{dec_le}
use lib.ListN.{length, take, drop, get_or, length-take, get_or-eq_default}
use lib.Seq.{get_or-take, ext_get_or}
use Rattle.slices.specs.Pick.{pick}
use Rattle.slices.specs.Over.{over}
use Rattle.slices.proofs.Over.{length_over, get_or-over-in, get_or-over-before, get_or-over-after, get_or_part, length_part}
use Rattle.definition.specs.Bus.{Bytes, Place}
use Rattle.secrecy.specs.Secrecy.{hidden, blotted}

abbrev pub Alike : Bytes → Bytes → ℕ → Type 0
Alike b b' i = get_or b i 0 ≡ get_or b' i 0

pub split : (i n : ℕ) → (i < n) ⊎ (n ≤ i)
split i n = go (dec_le n i)
  where
    go : Dec (n ≤ i) → (i < n) ⊎ (n ≤ i)
    go (yes h) = inr h
    go (no h) = inl (omega arith)

-- only the places inside the lists are to be shown
pub inside : (b b' : Bytes) (i : ℕ) → length b ≡ length b' → (i < length b → Alike b b' i) → Alike b b' i
inside b b' i e f = go (split i (length b))
  where
    go : (i < length b) ⊎ (length b ≤ i) → Alike b b' i
    go (inl h) = f h
    go (inr h) = get_or-eq_default b 0 h ∙ sym (get_or-eq_default b' 0 (omega arith))

over-in : (b : Bytes) (at : ℕ) (s : Bytes) (i : ℕ) → i < length b → at ≤ i → i < at + length s → get_or (over b at s) i 0 ≡ get_or s (i - at) 0
over-in b at s i l h u =
    let e : at + (i - at) ≡ i = omega arith in
    rw e at (get_or-over-in b at s (i - at) 0 (omega arith) (omega arith))

-- laid bytes: alike where the lists were, outside; where the bytes are, inside
pub over-alike : (b b' : Bytes) (at : ℕ) (s s' : Bytes) (i : ℕ) → length b ≡ length b' → length s ≡ length s' → ((i < at) ⊎ (at + length s ≤ i) → Alike b b' i) → (at ≤ i → i < at + length s → Alike s s' (i - at)) → Alike (over b at s) (over b' at s') i
over-alike b b' at s s' i e n f g =
    inside (over b at s) (over b' at s') i (length_over b at s ∙ e ∙ sym (length_over b' at s')) (λ l. go (omega (arith, length_over b at s)) (split i at) (split i (at + length s)))
  where
    go : i < length b → (i < at) ⊎ (at ≤ i) → (i < at + length s) ⊎ (at + length s ≤ i) → Alike (over b at s) (over b' at s') i
    go l (inl h) u = get_or-over-before b at s i 0 h ∙ f (inl h) ∙ sym (get_or-over-before b' at s' i 0 h)
    go l (inr h) (inl u) = over-in b at s i l h u ∙ g h u ∙ sym (over-in b' at s' i (omega arith) h (omega arith))
    go l (inr h) (inr u) = get_or-over-after b at s i 0 u ∙ f (inr u) ∙ sym (get_or-over-after b' at s' i 0 (omega arith))

-- the same bytes laid into both: what was alike stays so
pub over-keeps : (b b' : Bytes) (at : ℕ) (s : Bytes) (i : ℕ) → length b ≡ length b' → Alike b b' i → Alike (over b at s) (over b' at s) i
over-keeps b b' at s i e h = over-alike b b' at s s i e refl (λ u. h) (λ u v. refl)

-- and where they lie, the lists are alike
pub over-makes : (b b' : Bytes) (at : ℕ) (s : Bytes) (i : ℕ) → length b ≡ length b' → at ≤ i → i < at + length s → Alike (over b at s) (over b' at s) i
over-makes b b' at s i e h l = over-alike b b' at s s i e refl (λ u. off u) (λ u v. refl)
  where
    off : (i < at) ⊎ (at + length s ≤ i) → Alike b b' i
    off (inl u) = absurd (omega arith)
    off (inr u) = absurd (omega arith)

pub over-size : (b b' : Bytes) (at : ℕ) (s s' : Bytes) → length b ≡ length b' → length (over b at s) ≡ length (over b' at s')
over-size b b' at s s' e = length_over b at s ∙ e ∙ sym (length_over b' at s')

pub take-alike : (b b' : Bytes) (n : ℕ) → length b ≡ length b' → ((i : ℕ) → i < n → Alike b b' i) → take n b ≡ take n b'
take-alike b b' n e f = ext_get_or 0 _ _ (rw (length-take n b, length-take n b', e)) at
  where
    at : (i : ℕ) → i < length (take n b) → Alike (take n b) (take n b') i
    at i u =
        let l : i < n = omega (arith, length-take n b) in
        get_or-take n b i 0 l ∙ f i l ∙ sym (get_or-take n b' i 0 l)

-- a part of n bytes from o on
abbrev pub Part : ℕ → ℕ → Bytes → Bytes → Type 0
Part o n b b' = (i : ℕ) → o ≤ i → i < o + n → Alike b b' i

pub part-alike : (b b' : Bytes) (o n : ℕ) → length b ≡ length b' → Part o n b b' → take n (drop o b) ≡ take n (drop o b')
part-alike b b' o n e f = ext_get_or 0 _ _ (rw (length_part b o n, length_part b' o n, e)) at
  where
    at : (i : ℕ) → i < length (take n (drop o b)) → Alike (take n (drop o b)) (take n (drop o b')) i
    at i u =
        let l : i < n = omega (arith, length_part b o n) in
        get_or_part b o n i 0 l ∙ f (o + i) (omega arith) (omega arith) ∙ sym (get_or_part b' o n i 0 l)

-- packets that are alike where nothing is hidden are the same, blotted
pub blotted-same : (size : ℕ) (secret : Place) (i : ℕ) (p p' : Bytes) → length p ≡ length p' → ((j : ℕ) → hidden size secret (i + j) ≡ false → Alike p p' j) → blotted size secret i p ≡ blotted size secret i p'
unfolding blotted
blotted-same size secret i [] [] e f = refl
blotted-same size secret i [] (y ∷ p') e f = absurd (omega arith)
blotted-same size secret i (x ∷ p) [] e f = absurd (omega arith)
blotted-same size secret i (x ∷ p) (y ∷ p') e f =
    rw (blotted-same size secret (i + 1) p p' (omega arith) (λ j h. f (suc j) (rw (shift j) h)), first (hidden size secret i) (λ h. f zero (rw add-zero h)))
  where
    shift : (j : ℕ) → i + suc j ≡ i + 1 + j
    shift j = omega arith

    first : (v : Bool) → (v ≡ false → x ≡ y) → pick v 0 x ≡ pick v 0 y
    first true h = refl
    first false h = h refl
