use borrow.Author.Tests.{eq-eqb, ne_eqb}
use Rattle.device.specs.Poll.{interrupt_step}
use Rattle.poll_points.specs.PollPoints.{point_by}
use Rattle.poll_points.proofs.interrupt_read.Goals as goal

pub returns-then-v-eq0 : goal.returns-then-v-eq0
unfolding interrupt_step
returns-then-v-eq0 c = λ s. simp (eq-eqb _ _ c.if-v-eq0.true) (c.acknowledged.ensures s)

pub returns : goal.returns
unfolding interrupt_step point_by
returns c = λ s. simp (ne_eqb _ _ c.if-v-eq0.false, c.ask.ensures)
