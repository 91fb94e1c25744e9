use borrow.Author.Tests.{lt-ltb, le-ltb}
use Rattle.ioctl.specs.Ioctl.{shorter}
use Rattle.reply_points.proofs.shorter.Goals as goal

pub returns-then-a-b : goal.returns-then-a-b
unfolding shorter
returns-then-a-b c = simp (lt-ltb _ _ c.if-a-b.true)

pub returns-else-a-b : goal.returns-else-a-b
unfolding shorter
returns-else-a-b c = simp (le-ltb _ _ c.if-a-b.false)
