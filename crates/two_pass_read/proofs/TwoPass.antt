-- The two passes leave what document 01 says of a read.
use mathlib.Core.Path.{◌≡◌, refl, sym, ◌∙◌}
use mathlib.Core.List.{List, [], ◌∷◌, ◌++◌}
use Prim.Native.Nat.{ℕ, zero, suc, ◌+◌, ◌*◌, ◌-◌, min}
use native.Mathlib.Omega.{arith}
use lib.ListN.{length, take, drop, get_or, length-take, length-drop, take-append-drop}
use lib.Seq.{drop-nil}
use Rattle.slices.specs.Over.{over}
use Rattle.slices.specs.Le.{le32, bytes_of}
use Rattle.slices.proofs.Over.{over-nil, over-hides}
use Rattle.slices.proofs.Le.{length-bytes_of, bytes_of-drop}
use Rattle.definition.specs.Device.{landed}
use Rattle.two_pass_read.specs.TwoPass.{laid_twice}

-- of any words, and any n: the second pass hides what the first laid past byte n
pub twice-landed : (n : ℕ) (ws b : List ℕ) → laid_twice n ws b ≡ landed n (bytes_of ws) b
unfolding laid_twice landed
twice-landed n ws b =
    let T : List ℕ = bytes_of ws in
    let p : bytes_of (drop 1 ws) ≡ take n (drop 4 T) ++ drop n (drop 4 T) = bytes_of-drop 1 ws ∙ sym (take-append-drop n (drop 4 T)) in
    let l : min n (4 * length ws - 4) ≡ 0 + length (take n (drop 4 T)) = omega (arith, length-take n (drop 4 T), length-drop 4 T, length-bytes_of ws) in
    rw (p, l) (over-hides b 0 (take n (drop 4 T)) (drop n (drop 4 T)) (drop n T) (omega (arith, length-drop n (drop 4 T), length-drop 4 T, length-drop n T)))

-- after the first pass, after the second
pub twice : {c d : List ℕ} (n at : ℕ) (ws b : List ℕ) → at ≡ min n (4 * length ws - 4) → c ≡ over b 0 (bytes_of (drop 1 ws)) → d ≡ over c at (drop n (bytes_of ws)) → d ≡ laid_twice n ws b
unfolding laid_twice
twice n at ws b e p q = rw (q, p, e)

-- nothing was transferred
pub twice-none : (n : ℕ) (ws b : List ℕ) → length ws ≡ 0 → laid_twice n ws b ≡ b
unfolding laid_twice bytes_of
twice-none n [] b h = rw (drop-nil, over-nil (over b 0 []), over-nil)
twice-none n (w ∷ ws) b h = absurd (omega arith)

-- the bytes from the last word on
pub last-bytes : (ws : List ℕ) (k : ℕ) → length ws ≡ k + 1 → drop (4 * k) (bytes_of ws) ≡ le32 (get_or ws k 0)
unfolding bytes_of
last-bytes [] k h = absurd (omega arith)
last-bytes (w ∷ []) zero h = refl
last-bytes (w ∷ v ∷ ws) zero h = absurd (omega arith)
last-bytes (w ∷ ws) (suc k) h =
    let e : 4 * suc k ≡ suc (suc (suc (suc (4 * k)))) = omega arith in
    rw e (last-bytes ws k (omega arith))
