-- i elements are down; what is read lies past them, as it was.
use mathlib.Core.Path.{refl, sym, ◌∙◌}
use native.Mathlib.Omega.{arith}
use Rattle.slices.proofs.Over.{laid_none, laid_more, laid-all, laid-past, get_or_part, length_part}
use Rattle.slices.proofs.copy_down.Goals as goal

pub loop-i-init : goal.loop-i-init
loop-i-init c = laid_none refl

pub loop-i-preserved : goal.loop-i-preserved
loop-i-preserved c =
    let a = c.args in
    let l = c.loop-i.invariant in
    laid_more 0 l (omega (arith, length_part a.buf.now a.from a.n)) refl refl (laid-past 0 l (omega arith) ∙ sym (get_or_part a.buf.now a.from a.n c.loop-i.i 0 (omega arith)))

pub returns : goal.returns
returns c =
    let a = c.args in
    laid-all c.loop-i.invariant (omega (arith, length_part a.buf.now a.from a.n))
