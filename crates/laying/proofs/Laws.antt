-- What is laid before the end of what is kept.
use Prim.Native.Nat.{ℕ, ◌+◌, ◌-◌, ◌≤◌, min}
use mathlib.Core.Path.{◌≡◌, refl, ◌∙◌}
use mathlib.Core.List.{List}
use native.Mathlib.Omega.{arith}
use lib.ListN.{length, take, drop, length-take}
use Rattle.slices.specs.Over.{over}
use Rattle.slices.proofs.Over.{length_over, over-fits}
use Rattle.definition.specs.Bus.{Bytes}
use Rattle.definition.specs.Request.{Request, ioctl_header}
use Rattle.undo.specs.Undo.{kept_of}
use Rattle.undo.proofs.Laws.{buf-changed}
use Rattle.undo.proofs.Parts.{drop-over-past}
use Rattle.laying.specs.Laying.{KeptTo, LaidKept}

header-length : (r : Request) (id : ℕ) → length (ioctl_header r id) ≡ 16
unfolding ioctl_header
header-length r id = refl

-- what lies past what is kept does not change
unchanged : (n : ℕ) (c : Bytes) (k at : ℕ) (x : Bytes) → length c ≡ 2048 → at ≤ 2048 → at + length x ≤ n → min n 2048 ≤ k → drop k (over c at x) ≡ drop k c
unchanged n c k at x e z h m =
    rw (over-fits c at x) (drop-over-past k c at (take (length c - at) x) (omega (arith, length-take (length c - at) x)))

pub laid_kept : {u v : List ℕ} {c : Bytes} (n : ℕ) (at : ℕ) (x : Bytes) → KeptTo u v c n → length c ≡ 2048 → at ≤ 2048 → at + length x ≤ n → LaidKept u v c (over c at x)
laid_kept {u} {v} {c} n at x k e z h =
    record {
      kept = k.kept;
      session = k.session;
      buf = buf-changed (over c at x) c k.kept (length_over c at x ∙ e) e (unchanged n c (kept_of v) at x e z h k.to) ∙ k.buf;
    }

-- two runs
both-kept : {u v : List ℕ} {c : Bytes} (n : ℕ) (at to : ℕ) (x y : Bytes) → KeptTo u v c n → length c ≡ 2048 → at ≤ 2048 → at + length x ≤ n → to ≤ 2048 → to + length y ≤ n → LaidKept u v c (over (over c at x) to y)
both-kept {u} {v} {c} n at to x y k e z h q g =
    let first = laid_kept n at x k e z h in
    let more : LaidKept v v (over c at x) (over (over c at x) to y) = laid_kept n to y (record { kept = k.kept; to = k.to; session = λ s. refl; buf = refl }) (length_over c at x ∙ e) q g in
    record { kept = k.kept; session = k.session; buf = more.buf ∙ first.buf }

pub header-laid : {u v : List ℕ} {c : Bytes} (r : Request) (id : ℕ) → KeptTo u v c 28 → length c ≡ 2048 → LaidKept u v c (over c 12 (ioctl_header r id))
header-laid r id k e = laid_kept 28 12 (ioctl_header r id) k e (omega arith) (omega (arith, header-length r id))

pub whole-laid : {u v : List ℕ} {c : Bytes} (r : Request) (id : ℕ) → KeptTo u v c (28 + length r.payload) → length c ≡ 2048 → LaidKept u v c (over (over c 28 r.payload) 12 (ioctl_header r id))
whole-laid r id k e =
    both-kept (28 + length r.payload) 28 12 r.payload (ioctl_header r id) k e (omega arith) (omega arith) (omega arith) (omega (arith, header-length r id))
