use Rattle.send.specs.Send.{polling_step}
use Rattle.send_points.specs.SendPoints.{point_by}
use Rattle.send_points.proofs.polling.Goals as goal
use Rattle.std.specs.Prelude.{None}

pub returns : goal.returns
unfolding polling_step point_by
returns c = rw (c.asks.ensures None, c.poll_from.ensures)
