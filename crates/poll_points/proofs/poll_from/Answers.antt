use Rattle.device.specs.Poll.{poll_start}
use Rattle.poll_points.specs.PollPoints.{point_by}
use Rattle.poll_points.proofs.poll_from.Goals as goal

pub returns-then-t : goal.returns-then-t
unfolding poll_start point_by
returns-then-t c = rw (← c.sdpcm_at-t.ensures, c.if-t.true)

pub returns-else-t : goal.returns-else-t
unfolding poll_start point_by
returns-else-t c = rw (← c.sdpcm_at-t.ensures, c.if-t.false)
