-- i bytes of w are down.
use mathlib.Core.Path.{refl}
use native.Mathlib.Omega.{arith}
use Rattle.slices.proofs.Over.{laid_none, laid_more, laid-fits}
use Rattle.put_words.proofs.put_cut.Goals as goal

pub loop-i-init : goal.loop-i-init
loop-i-init c = laid_none refl

pub loop-i-preserved : goal.loop-i-preserved
loop-i-preserved c = laid_more 0 c.loop-i.invariant (omega arith) refl refl c.byte_of.ensures

pub returns : goal.returns
returns c = laid-fits c.loop-i.invariant (omega arith)
