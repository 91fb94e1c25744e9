-- i bytes are down.
use mathlib.Core.Path.{refl, sym, ◌∙◌}
use native.Mathlib.Omega.{arith}
use lib.ListN.{drop}
use lib.Seq.{get_or-take, get_or-drop}
use Rattle.slices.proofs.Over.{laid_none, laid_more, laid-fits, length_part}
use Rattle.undo.proofs.copy.Goals as goal

pub loop-i-init : goal.loop-i-init
loop-i-init c = laid_none refl

pub loop-i-preserved : goal.loop-i-preserved
loop-i-preserved c =
    let a = c.args in
    laid_more 0 c.loop-i.invariant (omega (arith, length_part a.src.now a.from a.n)) refl refl (sym (get_or-take a.n (drop a.from a.src.now) c.loop-i.i 0 (omega arith) ∙ get_or-drop a.from a.src.now c.loop-i.i 0))

pub returns : goal.returns
returns c = laid-fits c.loop-i.invariant (omega (arith, length_part c.args.src.now c.args.from c.args.n))
