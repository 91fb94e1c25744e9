-- Words by eights.
use mathlib.Core.Path.{◌≡◌, refl, ap}
use mathlib.Core.List.{List, [], ◌∷◌, ◌++◌}
use Prim.Native.Nat.{ℕ, zero, suc, ◌+◌, ◌*◌, ◌≤◌}
use native.Mathlib.Nat.{add-suc}
use native.Mathlib.Numerals.{add-one}
use native.Mathlib.Omega.{arith}
use lib.ListN.{length, take, drop, get_or}
use lib.Seq.{take-add, drop-cons}
use Rattle.slices.specs.Le.{bytes_of}
use Rattle.slices.proofs.Le.{bytes_of-append}

-- the elements at k + j, k + j + 1, .., j a numeral: m of them
abbrev pub from : ℕ → List ℕ → ℕ → ℕ → List ℕ
from zero ws k j = []
from (suc m) ws k j = get_or ws (k + j) 0 ∷ from m ws k (suc j)

part : (m : ℕ) (ws : List ℕ) (k j : ℕ) → k + j + m ≤ length ws → take m (drop (k + j) ws) ≡ from m ws k j
part zero ws k j h = refl
part (suc m) ws k j h = rw (drop-cons ws (k + j) 0 (omega arith), ← add-suc k j) (ap (λ (l : List ℕ). get_or ws (k + j) 0 ∷ l) (part m ws k (suc j) (omega arith)))

-- the eight from k on
pub eight : (ws : List ℕ) (k : ℕ) → k + 8 ≤ length ws → take 8 (drop k ws) ≡ get_or ws k 0 ∷ from 7 ws k 1
eight ws k h =
    let e : drop k ws ≡ get_or ws k 0 ∷ drop (k + 1) ws = rw (add-one k) (drop-cons ws k 0 (omega arith)) in
    rw e (ap (λ (l : List ℕ). get_or ws k 0 ∷ l) (part 7 ws k 1 (omega arith)))

-- n words in two parts
bytes-parts : (ws : List ℕ) (s r n : ℕ) → n ≡ s + r → bytes_of (take n ws) ≡ bytes_of (take s ws) ++ bytes_of (take r (drop s ws))
bytes-parts ws s r n e = rw (e, take-add, bytes_of-append)

-- eight words more
pub eights-more : (ws : List ℕ) (i : ℕ) → bytes_of (take (8 * (i + 1)) ws) ≡ bytes_of (take (8 * i) ws) ++ bytes_of (take 8 (drop (8 * i) ws))
eights-more ws i = bytes-parts ws (8 * i) 8 (8 * (i + 1)) (omega arith)
