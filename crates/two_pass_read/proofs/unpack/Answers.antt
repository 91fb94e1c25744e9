use native.Mathlib.Omega.{arith}
use lib.Seq.{take_all}
use Rattle.slices.proofs.Le.{bytes_of-cut}
use Rattle.two_pass_read.proofs.unpack.Goals as goal

pub returns-then-n-words : goal.returns-then-n-words
returns-then-n-words c = rw (c.put_le32.ensures, c.unpack_whole.ensures) (bytes_of-cut c.args.dst.now c.args.words.now c.min-n.result c.if-n-words.true (omega arith))

pub returns-else-n-words : goal.returns-else-n-words
returns-else-n-words c = rw (take_all _ _ c.if-n-words.false) at c.unpack_whole.ensures
