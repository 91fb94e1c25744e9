use mathlib.Core.Path.{sym}
use native.Mathlib.Omega.{arith}
use Rattle.slices.proofs.Over as o
use Rattle.payload.proofs.Lay.{over-lent}
use Rattle.work_buffer.proofs.lay_request.Goals as goal

pub returns-then-buf-lt28 : goal.returns-then-buf-lt28
returns-then-buf-lt28 c = sym (o.over-past _ 28 _ (omega arith))

pub returns : goal.returns
returns c = rw c.lay_payload.ensures (over-lent c.args.buf.now 28 _)
