-- i zeros are down.
use Prim.Native.Nat.{ℕ}
use mathlib.Core.Path.{refl, sym}
use native.Mathlib.Omega.{arith}
use lib.ListN.{length-replicate, get_or-replicate}
use Rattle.slices.proofs.Over.{laid_none, laid_more, laid-fits}
use Rattle.slices.proofs.fill_zero.Goals as goal

pub loop-i-init : goal.loop-i-init
loop-i-init c = laid_none refl

pub loop-i-preserved : goal.loop-i-preserved
loop-i-preserved c =
    let n = c.args.n in
    laid_more 0 c.loop-i.invariant (omega (arith, length-replicate {A = ℕ} n 0)) refl refl (sym (get_or-replicate n c.loop-i.i 0 0 (omega arith)))

pub returns : goal.returns
returns c = laid-fits c.loop-i.invariant (omega (arith, length-replicate {A = ℕ} c.args.n 0))
