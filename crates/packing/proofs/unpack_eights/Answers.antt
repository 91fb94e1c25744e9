-- The bytes of i eights are down.
use Prim.Native.Nat.{◌*◌}
use mathlib.Core.Path.{◌≡◌}
use native.Mathlib.Omega.{arith}
use lib.ListN.{take, length-take}
use Rattle.slices.specs.Le.{bytes_of}
use Rattle.slices.proofs.Over.{run_none, run_more}
use Rattle.slices.proofs.Le.{length-bytes_of}
use Rattle.packing.proofs.Eights.{eights-more}
use Rattle.packing.proofs.unpack_eights.Goals as goal

pub loop-i-init : goal.loop-i-init
unfolding bytes_of
loop-i-init c = run_none

pub loop-i-preserved : goal.loop-i-preserved
loop-i-preserved c =
    let ws = c.args.words.now in
    let i = c.loop-i.i in
    rw (eights-more ws i) (run_more _ c.loop-i.invariant (omega (arith, length-bytes_of (take (8 * i) ws), length-take (8 * i) ws)) c.put_eight.ensures)

pub returns : goal.returns
returns c =
    let e : c.loop-i.i ≡ c.args.n = omega arith in
    rw e at c.loop-i.invariant.is
