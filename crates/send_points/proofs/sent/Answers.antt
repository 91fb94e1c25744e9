use Rattle.send_points.specs.SendPoints.{next_by}
use Rattle.send_points.proofs.sent.Goals as goal

pub returns : goal.returns
unfolding next_by
returns c = λ h. rw c.ended.ensures.0
