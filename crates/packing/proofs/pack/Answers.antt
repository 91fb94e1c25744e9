use native.Mathlib.Omega.{arith}
use lib.Seq.{take_all}
use Rattle.slices.specs.Le.{packed}
use Rattle.slices.proofs.Le.{length-packed, packed-cut}
use Rattle.packing.proofs.pack.Goals as goal

pub returns-then-n-bytes : goal.returns-then-n-bytes
returns-then-n-bytes c =
    let a = c.args in
    rw (c.put.ensures, c.get_le32.ensures, c.pack_whole.ensures) (packed-cut a.log.now a.bytes.now a.at c.fitting-n.result c.fitting-n.ensures c.if-n-bytes.true)

pub returns-else-n-bytes : goal.returns-else-n-bytes
returns-else-n-bytes c =
    let bs = c.args.bytes.now in
    rw (take_all c.fitting-n.result (packed bs) (omega (arith, length-packed bs))) at c.pack_whole.ensures
