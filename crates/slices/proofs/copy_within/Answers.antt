use native.Mathlib.Omega.{arith}
use Rattle.slices.proofs.Over.{over-within}
use Rattle.slices.proofs.copy_within.Goals as goal

pub returns-then-to-from : goal.returns-then-to-from
returns-then-to-from c =
    let a = c.args in
    rw c.copy_down.ensures (over-within a.buf.now a.from a.n a.to c.fitting-k.result (omega arith))

pub returns-else-to-from : goal.returns-else-to-from
returns-else-to-from c =
    let a = c.args in
    rw c.copy_up.ensures (over-within a.buf.now a.from a.n a.to c.fitting-k.result (omega arith))
