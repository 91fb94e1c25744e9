-- Lists whose numbers are bytes.
use mathlib.Core.List.{List, [], ◌∷◌, ◌++◌}
use Prim.Native.Nat.{ℕ, zero, suc, ◌+◌, ◌<◌}
use native.Mathlib.Omega.{arith}
use lib.ListN.{get_or, take, drop, replicate}
use lib.Seq.{get_or-drop}
use Rattle.slices.specs.Over.{over}
use Rattle.slices.specs.Le.{le32, bytes_of}
use Rattle.definition.specs.Bus.{Bytes}

abbrev pub Bytewise : Bytes → Type 0
Bytewise s = (i : ℕ) → get_or s i 0 < 256

pub bytewise-nil : Bytewise []
bytewise-nil i = omega arith

pub bytewise-cons : (x : ℕ) (s : Bytes) → x < 256 → Bytewise s → Bytewise (x ∷ s)
bytewise-cons x s h g zero = h
bytewise-cons x s h g (suc i) = g i

pub bytewise-append : (a b : Bytes) → Bytewise a → Bytewise b → Bytewise (a ++ b)
bytewise-append [] b h g = g
bytewise-append (x ∷ a) b h g = bytewise-cons x (a ++ b) (h 0) (bytewise-append a b (λ i. h (suc i)) g)

pub bytewise-take : (n : ℕ) (s : Bytes) → Bytewise s → Bytewise (take n s)
bytewise-take zero s h = bytewise-nil
bytewise-take (suc n) [] h = bytewise-nil
bytewise-take (suc n) (x ∷ s) h = bytewise-cons x (take n s) (h 0) (bytewise-take n s (λ i. h (suc i)))

pub bytewise-drop : (n : ℕ) (s : Bytes) → Bytewise s → Bytewise (drop n s)
bytewise-drop n s h i = rw get_or-drop (h (n + i))

pub bytewise-zeros : (n : ℕ) → Bytewise (replicate n 0)
bytewise-zeros zero = bytewise-nil
bytewise-zeros (suc n) = bytewise-cons 0 (replicate n 0) (omega arith) (bytewise-zeros n)

pub bytewise-le32 : (w : ℕ) → Bytewise (le32 w)
bytewise-le32 w zero = omega arith
bytewise-le32 w (suc zero) = omega arith
bytewise-le32 w (suc (suc zero)) = omega arith
bytewise-le32 w (suc (suc (suc zero))) = omega arith
bytewise-le32 w (suc (suc (suc (suc i)))) = omega arith

pub bytewise-bytes_of : (ws : List ℕ) → Bytewise (bytes_of ws)
unfolding bytes_of
bytewise-bytes_of [] = bytewise-nil
bytewise-bytes_of (w ∷ ws) = bytewise-append (le32 w) (bytes_of ws) (bytewise-le32 w) (bytewise-bytes_of ws)

-- what is laid from the front leaves a byte at i, if there was one
pub byte-over : (d s : Bytes) (i : ℕ) → get_or d i 0 < 256 → get_or s i 0 < 256 → get_or (over d 0 s) i 0 < 256
unfolding over
byte-over [] s i h g = h
byte-over (x ∷ d) [] i h g = h
byte-over (x ∷ d) (y ∷ s) zero h g = g
byte-over (x ∷ d) (y ∷ s) (suc i) h g = byte-over d s i h g
