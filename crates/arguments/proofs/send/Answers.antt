use Rattle.arguments.proofs.Lent.{split-ends}
use Rattle.arguments.proofs.Numbered.{send-is, send-bad}
use Rattle.arguments.proofs.send.Goals as goal

pub returns-in_err-frame-clause-reads : goal.returns-in_err-frame-clause-reads
returns-in_err-frame-clause-reads c = rw c.from_residual.ensures (send-bad c.args.args.now c.in_err-frame.ensures.cases)

pub returns-clause-reads : goal.returns-clause-reads
returns-clause-reads c = send-is c.args.args.now _ _ c.get_le32.ensures c.in_ok-frame.ensures.cases

pub returns-clause-lent : goal.returns-clause-lent
returns-clause-lent c = split-ends c.args.args.now _ _ 4 c.in_ok-frame.ensures.cases
