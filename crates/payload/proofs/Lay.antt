-- What the runs of stores of a request come to.
use mathlib.Core.Path.{◌≡◌, refl, sym, ap}
use mathlib.Core.List.{[], ◌∷◌, ◌++◌, append-nil, append_assoc}
use Prim.Native.Nat.{ℕ, zero, suc, ◌+◌, ◌-◌, ◌*◌, ◌/◌, ◌%◌, ◌≤◌}
use native.Mathlib.Nat.{add-mul-mod_self_left}
use native.Mathlib.Numerals.{unary_clauses}
use native.Mathlib.Omega.{arith}
use lib.ListN.{length, take, drop, replicate, length-append, length-drop, drop_of_length-le}
use Rattle.slices.specs.Over.{over}
use Rattle.slices.specs.Le.{le16, le32}
use Rattle.slices.proofs.Over as o
use Rattle.definition.specs.Bus.{Bytes}
use Rattle.definition.specs.Request.{named, filled}

-- a run, and another from the same index on: what the second leaves of the first is what is past its end
over-twice : (d : Bytes) (at : ℕ) (u s : Bytes) → over (over d at u) at s ≡ over d at (s ++ drop (length s) u)
unfolding over
over-twice [] at u s = refl
over-twice (x ∷ d) zero u [] = o.over-nil (over (x ∷ d) zero u) zero
over-twice (x ∷ d) zero [] (y ∷ s) = ap (λ (l : Bytes). y ∷ over d zero l) (sym (append-nil s))
over-twice (x ∷ d) zero (v ∷ u) (y ∷ s) = ap (λ (l : Bytes). y ∷ l) (over-twice d zero u s)
over-twice (x ∷ d) (suc at) u s = ap (λ (l : Bytes). x ∷ l) (over-twice d at u s)

drop-replicate : (k n z : ℕ) → drop k (replicate n z) ≡ replicate (n - k) z
drop-replicate zero n z = simp unary_clauses
drop-replicate (suc k) zero z =
    let e : 0 - suc k ≡ 0 = omega arith in
    rw e
drop-replicate (suc k) (suc n) z = simp unary_clauses (drop-replicate k n z)

pub over-filled : (d : Bytes) (at n : ℕ) (s : Bytes) → over (over d at (replicate n 0)) at s ≡ over d at (filled n s)
over-filled d at n s = rw (over-twice, drop-replicate)

rest : (xs : Bytes) (a : ℕ) (s : Bytes) → take a xs ++ over (drop a xs) 0 s ≡ over xs a s
unfolding over
rest xs zero s = refl
rest [] (suc a) s = refl
rest (x ∷ xs) (suc a) s = ap (λ (l : Bytes). x ∷ l) (rest xs a s)

-- `&mut xs[a..]` was lent, s laid into it from its front on as far as it fits, and it has come back
pub over-lent : (xs : Bytes) (a : ℕ) (s : Bytes)
    → take a xs ++ (over (take (length xs - a) (drop a xs)) 0 s ++ drop (length xs - a) (drop a xs)) ≡ over xs a s
over-lent xs a s =
    let h : length (drop a xs) ≤ length xs - a = omega (arith, length-drop a xs) in
    let none : drop (length xs - a) (drop a xs) ≡ [] = drop_of_length-le (drop a xs) h in
    rw (o.part-rest, none, append-nil) (rest xs a s)

-- the low bits alone make the bytes

same_byte : (x y q : ℕ) → x ≡ y + 256 * q → y % 256 ≡ x % 256
same_byte x y q e = rw (e, add-mul-mod_self_left)

pub le16-low : (n : ℕ) → le16 (n % 65536) ≡ le16 n
le16-low n =
    rw (same_byte n (n % 65536) (256 * (n / 65536)) (omega arith), same_byte (n / 256) (n % 65536 / 256) (n / 65536) (omega arith))

pub le32-low : (n : ℕ) → le32 (n % 4294967296) ≡ le32 n
le32-low n =
    let low : ℕ = n % 4294967296 in
    let q : ℕ = n / 4294967296 in
    rw (
      same_byte n low (16777216 * q) (omega arith),
      same_byte (n / 256) (low / 256) (65536 * q) (omega arith),
      same_byte (n / 65536) (low / 65536) (256 * q) (omega arith),
      same_byte (n / 16777216) (low / 16777216) q (omega arith),
    )

-- ---- a variable: d, with its name, a zero and the bytes s laid over its front, is e

pub record Named (d name s e : Bytes) : Type 0 where
  pub len : length e ≡ length d
  pub is : e ≡ over d 0 (named name s)

pub named-is : {d e : Bytes} (name s : Bytes) → e ≡ over d 0 (named name s) → Named d name s e
named-is name s h = record { len = rw (h, o.length_over); is = h }

pub named_more : {d name s e f : Bytes} {at : ℕ} (t : Bytes) → Named d name s e → at ≡ length name + 1 + length s → f ≡ over e at t → Named d name (s ++ t) f
named_more {d} {name} {s} {e} {f} {at} t n h k =
    let q : at ≡ 0 + length (named name s) = omega (arith, length-append name (0 ∷ s)) in
    record { len = rw (k, o.length_over, n.len); is = rw (k, n.is, q, o.over-append, append_assoc) }
