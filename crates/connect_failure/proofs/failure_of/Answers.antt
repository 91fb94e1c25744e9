use borrow.Author.Tests.{ne_eqb}
use Rattle.connect_failure.specs.Parts.{failure_of}
use Rattle.connect_failure.proofs.failure_of.Goals as goal

pub returns-then-p-eq0 : goal.returns-then-p-eq0
unfolding failure_of
returns-then-p-eq0 c = simp c.if-p-eq0.true

pub returns : goal.returns
unfolding failure_of
returns c = rw (c.kind_of.ensures, ne_eqb _ _ c.if-p-eq0.false)
