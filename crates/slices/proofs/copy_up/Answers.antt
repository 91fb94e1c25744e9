-- The last i elements are down; what is read lies before them, as it was.
use Prim.Native.Nat.{◌+◌, ◌-◌}
use mathlib.Core.Path.{◌≡◌, refl, sym, ◌∙◌}
use native.Mathlib.Omega.{arith}
use Rattle.slices.proofs.Over.{backed-none, backed-more, backed-all, backed-before, get_or_part, length_part}
use Rattle.slices.proofs.copy_up.Goals as goal

pub loop-i-init : goal.loop-i-init
loop-i-init c =
    let a = c.args in
    backed-none (omega (arith, length_part a.buf.now a.from a.n))

pub loop-i-preserved : goal.loop-i-preserved
loop-i-preserved c =
    let a = c.args in
    let l = c.loop-i.invariant in
    let k = a.n - 1 - c.loop-i.i in
    let e : a.n - (c.loop-i.i + 1) ≡ k = omega arith in
    rw e (backed-more 0 l (omega arith) (omega (arith, length_part a.buf.now a.from a.n)) refl (backed-before 0 l (omega arith) ∙ sym (get_or_part a.buf.now a.from a.n k 0 (omega arith))))

pub returns : goal.returns
returns c = backed-all c.loop-i.invariant (omega arith)
