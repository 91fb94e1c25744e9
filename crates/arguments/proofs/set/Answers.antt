use Rattle.arguments.proofs.Lent.{nothing-lies, nothing-ends}
use Rattle.arguments.proofs.Numbered.{set_is, set-bad}
use Rattle.arguments.proofs.set.Goals as goal

pub returns-then-args-ne12-clause-reads : goal.returns-then-args-ne12-clause-reads
returns-then-args-ne12-clause-reads c = set-bad c.args.args.now c.if-args-ne12.true

pub returns-clause-reads : goal.returns-clause-reads
returns-clause-reads c = set_is c.args.args.now _ _ c.get_le32.ensures c.get_le32-2.ensures c.get_le32-3.ensures c.if-args-ne12.false

pub returns-clause-lent : goal.returns-clause-lent
returns-clause-lent c = (nothing-lies c.args.args.now, nothing-ends c.args.args.now)
