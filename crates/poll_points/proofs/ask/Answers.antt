use mathlib.Core.Path.{refl}
use Rattle.poll_points.specs.PollPoints.{next_by}
use Rattle.poll_points.proofs.ask.Goals as goal

pub returns : goal.returns
unfolding next_by
returns c = refl
