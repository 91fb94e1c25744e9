use native.Mathlib.Omega.{arith}
use lib.ListN.{length}
use Rattle.bus.proofs.Words.{sent-small, length-words}
use Rattle.bus.proofs.log.op_words.Goals as goal

pub overflow_add-result : goal.overflow_add-result
overflow_add-result c = omega (arith, sent-small c.args.op (length c.args.buf.now))

pub returns : goal.returns
returns c = omega (arith, length-words c.args.op c.args.buf.now)
