-- i words are down.
use mathlib.Core.Path.{◌≡◌, refl, sym, ◌∙◌}
use native.Mathlib.Omega.{arith}
use Rattle.slices.proofs.Over.{laid_none, laid_more}
use Rattle.slices.proofs.Le.{length-packed, get_or-packed}
use Rattle.packing.proofs.pack_whole.Goals as goal

pub loop-i-init : goal.loop-i-init
loop-i-init c = laid_none refl

pub loop-i-preserved : goal.loop-i-preserved
loop-i-preserved c =
    let bs = c.args.bytes.now in
    laid_more 0 c.loop-i.invariant (omega (arith, length-packed bs)) refl refl (c.get_whole.ensures ∙ sym (get_or-packed bs c.loop-i.i))

pub returns : goal.returns
returns c =
    let e : c.loop-i.i ≡ c.args.n = omega arith in
    rw e at c.loop-i.invariant.is
