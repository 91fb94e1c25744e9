use borrow.Author.Tests.{eq-eqb, ne_eqb}
use Rattle.device.specs.Poll.{waited}
use Rattle.poll_points.specs.PollPoints.{point_by}
use Rattle.poll_points.proofs.waited.Goals as goal

pub returns-then-left-eq0 : goal.returns-then-left-eq0
unfolding waited
returns-then-left-eq0 c = λ s. simp (eq-eqb _ _ c.if-left-eq0.true, c.none.ensures)

pub returns : goal.returns
unfolding waited point_by
returns c = λ s. simp (ne_eqb _ _ c.if-left-eq0.false, c.ask.ensures)
