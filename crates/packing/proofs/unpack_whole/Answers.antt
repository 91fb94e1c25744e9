-- The bytes of all eights and of i words more are down.
use Prim.Native.Nat.{◌+◌, ◌*◌, ◌-◌, ◌/◌, ◌%◌}
use mathlib.Core.Path.{◌≡◌}
use native.Mathlib.Omega.{arith}
use Rattle.slices.proofs.Over.{length_over}
use Rattle.slices.proofs.Le.{word-more}
use Rattle.packing.proofs.unpack_whole.Goals as goal

pub loop-i-init : goal.loop-i-init
loop-i-init c =
    let n = c.args.n in
    let e : n - n % 8 + 0 ≡ 8 * (n / 8) = omega arith in
    rw e (record { len = rw (c.unpack_eights.ensures, length_over); is = c.unpack_eights.ensures })

pub loop-i-preserved : goal.loop-i-preserved
loop-i-preserved c =
    let s = c.args.n - c.args.n % 8 in
    let e : s + (c.loop-i.i + 1) ≡ s + c.loop-i.i + 1 = omega arith in
    rw e (word-more c.args.words.now (s + c.loop-i.i) (omega arith) c.loop-i.invariant c.put_whole.ensures)

pub returns : goal.returns
returns c =
    let e : c.args.n - c.args.n % 8 + c.loop-i.i ≡ c.args.n = omega arith in
    rw e at c.loop-i.invariant.is
