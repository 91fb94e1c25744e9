use Rattle.arguments.proofs.Lent.{front-lies, back-ends}
use Rattle.arguments.proofs.Numbered.{join_is, join-short, join-bad}
use Rattle.arguments.proofs.join.Goals as goal

pub returns-in_err-rest-clause-reads : goal.returns-in_err-rest-clause-reads
returns-in_err-rest-clause-reads c = rw c.from_residual.ensures (join-short c.args.args.now c.in_err-rest.ensures.cases)

pub returns-in_err-ssid-clause-reads : goal.returns-in_err-ssid-clause-reads
returns-in_err-ssid-clause-reads c = rw c.from_residual-in_err-ssid.ensures (join-bad c.args.args.now _ _ c.get_le32.ensures c.in_ok-rest.ensures.cases c.in_err-ssid.ensures.cases)

pub returns-clause-reads : goal.returns-clause-reads
returns-clause-reads c = join_is c.args.args.now _ _ _ _ c.get_le32-2.ensures c.get_le32.ensures c.in_ok-rest.ensures.cases c.in_ok-ssid.ensures.cases

pub returns-clause-lent : goal.returns-clause-lent
returns-clause-lent c = (front-lies c.args.args.now _ _ _ _ 8 _ c.in_ok-rest.ensures.cases c.in_ok-ssid.ensures.cases, back-ends c.args.args.now _ _ _ _ 8 _ c.in_ok-rest.ensures.cases c.in_ok-ssid.ensures.cases)
