-- Parts of a list that a run was laid over.
use mathlib.Core.Path.{◌≡◌, refl, sym, ap, ◌∙◌}
use mathlib.Core.List.{List, [], ◌∷◌, ◌++◌}
use Prim.Native.Nat.{ℕ, zero, suc, ◌+◌, ◌-◌, ◌≤◌}
use native.Mathlib.Nat.{zero-add, suc-add, add-suc, le_of_suc-le-suc, not-suc-le-zero}
use native.Mathlib.Omega.{arith}
use lib.ListN.{length, take, drop, length-drop}
use Rattle.slices.specs.Over.{over}
use Rattle.slices.proofs.Over.{over-append, over-parts}

module _ {ℓ} {A : Type ℓ} where
  take-over-before : (n : ℕ) (d : List A) (at : ℕ) (s : List A) → n ≤ at → take n (over d at s) ≡ take n d
  unfolding over
  take-over-before zero d at s h = refl
  take-over-before (suc n) [] at s h = refl
  take-over-before (suc n) (x ∷ d) zero s h = absurd (not-suc-le-zero h)
  take-over-before (suc n) (x ∷ d) (suc at) s h = ap (λ (l : List A). x ∷ l) (take-over-before n d at s (le_of_suc-le-suc h))

  pub drop-over-past : (n : ℕ) (d : List A) (at : ℕ) (s : List A) → at + length s ≤ n → drop n (over d at s) ≡ drop n d
  unfolding over
  drop-over-past n [] at s h = refl
  drop-over-past n (x ∷ d) zero [] h = refl
  drop-over-past zero (x ∷ d) zero (y ∷ s) h = absurd (omega arith)
  drop-over-past (suc n) (x ∷ d) zero (y ∷ s) h = drop-over-past n d zero s (omega arith)
  drop-over-past zero (x ∷ d) (suc at) s h = absurd (omega arith)
  drop-over-past (suc n) (x ∷ d) (suc at) s h = drop-over-past n d at s (omega arith)

  drop-over : (n : ℕ) (d : List A) (at : ℕ) (s : List A) → drop n (over d (n + at) s) ≡ over (drop n d) at s
  unfolding over
  drop-over zero d at s = rw zero-add
  drop-over (suc n) [] at s = refl
  drop-over (suc n) (x ∷ d) at s = rw suc-add (drop-over n d at s)

  take-over : (d : List A) (k : ℕ) (s : List A) → k + length s ≤ length d → take (k + length s) (over d k s) ≡ take k d ++ s
  unfolding over
  take-over [] zero [] h = refl
  take-over [] zero (y ∷ s) h = absurd (omega arith)
  take-over [] (suc k) s h = absurd (omega arith)
  take-over (x ∷ d) zero [] h = refl
  take-over (x ∷ d) zero (y ∷ s) h = rw add-suc (ap (λ (l : List A). y ∷ l) (take-over d zero s (omega arith)))
  take-over (x ∷ d) (suc k) s h = rw suc-add (ap (λ (l : List A). x ∷ l) (take-over d k s (omega arith)))

  -- a part of d laid where it was
  pub over-own : (d : List A) (at n : ℕ) → over d at (take n (drop at d)) ≡ d
  unfolding over
  over-own [] at n = refl
  over-own (x ∷ d) zero zero = refl
  over-own (x ∷ d) zero (suc n) = ap (λ (l : List A). x ∷ l) (over-own d zero n)
  over-own (x ∷ d) (suc at) n = ap (λ (l : List A). x ∷ l) (over-own d at n)

  -- the part from a on, n long, lies before the run
  pub part-before : (d : List A) (a n at : ℕ) (s : List A) → a + n ≤ at → take n (drop a (over d at s)) ≡ take n (drop a d)
  part-before d a n at s h =
      let e : at ≡ a + (at - a) = omega arith in
      rw (e, drop-over) (take-over-before n (drop a d) (at - a) s (omega arith))

  -- the part ends with the run, which begins k after a
  pub part-with : (d : List A) (a k : ℕ) (s : List A) → a + (k + length s) ≤ length d → take (k + length s) (drop a (over d (a + k) s)) ≡ take k (drop a d) ++ s
  part-with d a k s h = rw drop-over (take-over (drop a d) k s (omega (arith, length-drop a d)))

  -- the part is the run
  pub part_in : (d : List A) (a n : ℕ) (s : List A) → length s ≡ n → a + n ≤ length d → take n (drop a (over d a s)) ≡ s
  part_in d a n s e h =
      let z : n ≡ 0 + length s = omega arith in
      let y : a ≡ a + 0 = omega arith in
      rw z (ap (λ (i : ℕ). take (0 + length s) (drop a (over d i s))) y ∙ part-with d a 0 s (omega arith))

  -- two runs, one after the other
  pub over-next : (d : List A) (at : ℕ) (s : List A) (o : ℕ) (t : List A) → o ≡ at + length s → over (over d at s) o t ≡ over d at (s ++ t)
  over-next d at s o t e = rw e (over-append d at s t)

  -- what is laid over d's front, and then a part of d laid where it was
  pub over-more : (d s : List A) (k n : ℕ) → length s ≡ k → over d 0 (s ++ take n (drop k d)) ≡ over d 0 s
  over-more d s k n e =
      sym (over-next d 0 s k (take n (drop k d)) (omega arith)) ∙ rw (← drop-over-past k d 0 s (omega arith)) (over-own (over d 0 s) k n)

  -- a run over the front hides what lies below it
  pub over-covers : (d e s : List A) → length d ≡ length e → length s ≤ length d → drop (length s) d ≡ drop (length s) e → over d 0 s ≡ over e 0 s
  over-covers d e s h k q = rw (over-parts d 0 s (omega arith), over-parts e 0 s (omega arith), zero-add, q)
