use borrow.Author.Tests.{eq-eqb, ne_eqb}
use Rattle.device.specs.Poll.{read_step}
use Rattle.poll_points.specs.PollPoints.{point_by}
use Rattle.poll_points.proofs.Laws.{still}
use Rattle.poll_points.proofs.status_read.Goals as goal

pub returns-then-v-eq4294967295 : goal.returns-then-v-eq4294967295
unfolding read_step point_by
returns-then-v-eq4294967295 c = still _ c.requires (simp (eq-eqb _ _ c.if-v-eq4294967295.true, c.ask.ensures))

pub returns : goal.returns
unfolding read_step
returns c = simp (ne_eqb _ _ c.if-v-eq4294967295.false) c.by_status.ensures
