-- The bytes of i words are down.
use native.Mathlib.Omega.{arith}
use mathlib.Core.Path.{◌≡◌}
use Rattle.slices.specs.Le.{bytes_of}
use Rattle.slices.proofs.Over.{run_none}
use Rattle.slices.proofs.Le.{word-more}
use Rattle.two_pass_read.proofs.unpack_whole.Goals as goal

pub loop-i-init : goal.loop-i-init
unfolding bytes_of
loop-i-init c = run_none

pub loop-i-preserved : goal.loop-i-preserved
loop-i-preserved c = word-more c.args.words.now c.loop-i.i (omega arith) c.loop-i.invariant c.put_whole.ensures

pub returns : goal.returns
returns c =
    let e : c.loop-i.i ≡ c.args.n = omega arith in
    rw e at c.loop-i.invariant.is
