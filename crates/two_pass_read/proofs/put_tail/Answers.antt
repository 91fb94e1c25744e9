use Prim.Native.Nat.{◌-◌}
use native.Mathlib.Omega.{arith}
use lib.ListN.{length}
use Rattle.two_pass_read.proofs.TwoPass.{last-bytes}
use Rattle.two_pass_read.proofs.put_tail.Goals as goal

pub returns-then-n-last : goal.returns-then-n-last
returns-then-n-last c = rw (c.if-n-last.true, last-bytes c.args.words.now (length c.args.words.now - 1) (omega arith)) c.put_le32.ensures
