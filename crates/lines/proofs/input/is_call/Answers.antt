use borrow.Author.Tests.{lt-ltb, le-ltb}
use Rattle.lines.proofs.input.is_call.Goals as goal

pub returns-then-h-gt4026531840 : goal.returns-then-h-gt4026531840
returns-then-h-gt4026531840 c = rw (lt-ltb 4026531840 c.args.h c.if-h-gt4026531840.true)

pub returns-else-h-gt4026531840 : goal.returns-else-h-gt4026531840
returns-else-h-gt4026531840 c = rw (le-ltb 4026531840 c.args.h c.if-h-gt4026531840.false)
