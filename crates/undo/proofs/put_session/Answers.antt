use Rattle.undo.specs.Undo.{back_session}
use borrow.Author.Tests.{eq-eqb, ne_eqb}
use Rattle.undo.proofs.put_session.Goals as goal

pub returns-then-undo-eq1 : goal.returns-then-undo-eq1
unfolding back_session
returns-then-undo-eq1 c = rw (c.copy.ensures, eq-eqb _ 1 c.if-undo-eq1.true, c.copy_front.ensures)

pub returns-else-undo-eq1 : goal.returns-else-undo-eq1
unfolding back_session
returns-else-undo-eq1 c = rw (ne_eqb _ 1 c.if-undo-eq1.false, c.copy_front.ensures)
