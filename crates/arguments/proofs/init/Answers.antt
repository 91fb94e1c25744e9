use Rattle.arguments.proofs.Lent.{nothing-lies, nothing-ends}
use Rattle.arguments.proofs.Numbered.{init-is, init-bad}
use Rattle.arguments.proofs.init.Goals as goal

pub returns-then-args-ne4-clause-reads : goal.returns-then-args-ne4-clause-reads
returns-then-args-ne4-clause-reads c = init-bad c.args.args.now c.if-args-ne4.true

pub returns-clause-reads : goal.returns-clause-reads
returns-clause-reads c = init-is c.args.args.now _ _ c.get_le32.ensures c.if-args-ne4.false

pub returns-clause-lent : goal.returns-clause-lent
returns-clause-lent c = (nothing-lies c.args.args.now, nothing-ends c.args.args.now)
