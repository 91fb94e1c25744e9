use Rattle.arguments.proofs.Lent.{nothing-lies, nothing-ends}
use Rattle.arguments.proofs.Numbered.{get-is, get-bad}
use Rattle.arguments.proofs.get.Goals as goal

pub returns-then-args-ne8-clause-reads : goal.returns-then-args-ne8-clause-reads
returns-then-args-ne8-clause-reads c = get-bad c.args.args.now c.if-args-ne8.true

pub returns-clause-reads : goal.returns-clause-reads
returns-clause-reads c = get-is c.args.args.now _ _ c.get_le32.ensures c.get_le32-2.ensures c.if-args-ne8.false

pub returns-clause-lent : goal.returns-clause-lent
returns-clause-lent c = (nothing-lies c.args.args.now, nothing-ends c.args.args.now)
