use Rattle.reply_points.specs.ReplyPoints.{next_by}
use Rattle.reply_points.proofs.refuse.Goals as goal

pub returns : goal.returns
unfolding next_by
returns c = λ h. rw (c.ended.ensures.0, c.ended.ensures.3)
