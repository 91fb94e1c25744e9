use mathlib.Core.Path.{refl}
use Rattle.reply_points.specs.ReplyPoints.{next_by}
use Rattle.reply_points.proofs.asks.Goals as goal

pub returns : goal.returns
unfolding next_by
returns c = λ h. refl
