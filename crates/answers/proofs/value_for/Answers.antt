use borrow.Author.Tests.{eq-eqb, ne_eqb}
use mathlib.Core.Path.{sym, ◌∙◌}
use Rattle.answers.specs.Taken.{taken_for}
use Rattle.answers.proofs.value_for.Goals as goal

pub returns-then-kind-wanted : goal.returns-then-kind-wanted
unfolding taken_for
returns-then-kind-wanted c = rw (← c.wanted.ensures, ne_eqb _ _ c.if-kind-wanted.true)

pub returns-then-asked : goal.returns-then-asked
unfolding taken_for
returns-then-asked c = rw (← c.wanted.ensures, eq-eqb _ _ c.if-kind-wanted.false, sym c.asked.ensures ∙ c.if-asked.true)

pub returns-else-asked : goal.returns-else-asked
unfolding taken_for
returns-else-asked c = rw (← c.wanted.ensures, eq-eqb _ _ c.if-kind-wanted.false, sym c.asked.ensures ∙ c.if-asked.false)
