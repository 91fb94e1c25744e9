use borrow.Author.Tests.{ltb-true}
use Rattle.arguments.proofs.Fits.{name-found}
use native.Mathlib.Omega.{arith}
use Rattle.arguments.proofs.Lent.{part-lies, rest-ends}
use mathlib.Core.Path.{sym}
use Rattle.arguments.proofs.Numbered.{variable-is, variable-short, variable-bad}
use Rattle.arguments.proofs.variable.Goals as goal

pub returns-in_err-rest-clause-reads : goal.returns-in_err-rest-clause-reads
returns-in_err-rest-clause-reads c = rw c.from_residual.ensures (variable-short c.args.args.now c.in_err-rest.ensures.cases)

pub returns-in_err-n-clause-reads : goal.returns-in_err-n-clause-reads
returns-in_err-n-clause-reads c = rw c.from_residual-in_err-n.ensures (variable-bad c.args.args.now _ _ c.in_ok-rest.ensures.cases (sym c.in_err-n.ensures))

pub returns-clause-reads : goal.returns-clause-reads
returns-clause-reads c = variable-is c.args.args.now _ _ c.get_le32.ensures c.in_ok-rest.ensures.cases (sym c.in_ok-n.ensures)

pub returns-clause-lent : goal.returns-clause-lent
returns-clause-lent c =
    let f = name-found c.in_ok-rest.rest.now c.in_ok-n.n (sym c.in_ok-n.ensures) in
    (part-lies c.args.args.now _ _ 4 _ c.in_ok-rest.ensures.cases, rest-ends c.args.args.now _ _ 4 _ c.in_ok-rest.ensures.cases (omega (arith, ltb-true _ _ f.0, f.1)))
