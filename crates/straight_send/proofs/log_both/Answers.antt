use lib.ListN.{length-set}
use native.Mathlib.Omega.{arith}
use Rattle.wlan.specs.declared.BusOp.{BusOp}
use Rattle.bus.proofs.Words.{length-words}
use Rattle.slices.proofs.Over.{length_over}
use Rattle.straight_send.proofs.Laws.{both-asked}
use Rattle.straight_send.proofs.log_both.Goals as goal

pub overflow_add-result : goal.overflow_add-result
overflow_add-result c = omega (arith, c.op_words.ensures, length-words (BusOp.WritePacket c.args.n) c.args.buf.now)

pub shape_of-log : goal.shape_of-log
shape_of-log c = rw (c.put_op.ensures, length_over, length-set)

pub returns : goal.returns
returns c = λ rec h. both-asked rec c.args.log.now _ c.args.n c.op_words.result c.args.buf.now (omega arith) (record { count = c.op_words.ensures; is = c.put_op.ensures; room = omega (arith, c.op_words.ensures, length-words (BusOp.WritePacket c.args.n) c.args.buf.now, length-set c.args.log.now 0 0x20000000) }) h
