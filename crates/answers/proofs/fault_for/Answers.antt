use borrow.Author.Tests.{ne_eqb}
use mathlib.Core.Path.{sym, ◌∙◌}
use Rattle.answers.specs.Taken.{taken_for}
use Rattle.answers.proofs.fault_for.Goals as goal

pub returns-then-want-eq4 : goal.returns-then-want-eq4
unfolding taken_for
returns-then-want-eq4 c = rw (sym c.wanted-want.ensures ∙ c.if-want-eq4.true)

pub returns-then-want-eq5 : goal.returns-then-want-eq5
unfolding taken_for
returns-then-want-eq5 c = rw (sym c.wanted-want.ensures ∙ c.if-want-eq5.true)

pub returns : goal.returns
unfolding taken_for
returns c = rw (← c.wanted-want.ensures, ne_eqb _ 4 c.if-want-eq4.false, ne_eqb _ 5 c.if-want-eq5.false)
