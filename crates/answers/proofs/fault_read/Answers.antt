use borrow.Author.Tests.{lt-ltb, le-ltb}
use Rattle.answers.proofs.fault_read.Goals as goal

pub returns-then-low-lt10 : goal.returns-then-low-lt10
returns-then-low-lt10 c = rw (lt-ltb _ 10 c.if-low-lt10.true)

pub returns-else-low-lt10 : goal.returns-else-low-lt10
returns-else-low-lt10 c = rw (le-ltb _ 10 c.if-low-lt10.false)
