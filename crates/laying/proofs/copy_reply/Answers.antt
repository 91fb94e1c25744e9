use Prim.Native.Nat.{◌+◌}
use native.Mathlib.Omega.{arith}
use lib.ListN.{take, drop}
use Rattle.slices.proofs.Over.{length_part}
use Rattle.ioctl.specs.Meaning.{laid_copy}
use Rattle.control.specs.Meaning.{laid_before}
use Rattle.laying.proofs.Laws.{laid_kept}
use Rattle.laying.proofs.copy_reply.Goals as goal

pub returns : goal.returns
unfolding laid_before laid_copy
returns c = let n = c.args.n in let b = c.args.buf.now in record { laid = c.copy_reply.ensures; kept = rw c.copy_reply.ensures (laid_kept (28 + n) 28 (take n (drop c.args.offset b)) (record { kept = c.keep.ensures.0; to = c.keep.ensures.1; session = c.keep.ensures.2; buf = c.keep.ensures.3 }) c.told-buf (omega arith) (omega (arith, length_part b c.args.offset n))) }
