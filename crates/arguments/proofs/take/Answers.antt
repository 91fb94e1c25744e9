use Rattle.arguments.proofs.Numbered.{take-is, take-bad}
use Rattle.arguments.proofs.take.Goals as goal

pub returns-then-args-ne4-clause-reads : goal.returns-then-args-ne4-clause-reads
returns-then-args-ne4-clause-reads c = take-bad c.args.args.now c.if-args-ne4.true

pub returns-clause-reads : goal.returns-clause-reads
returns-clause-reads c = take-is c.args.args.now c.if-args-ne4.false
