use mathlib.Core.Path.{refl}
use Rattle.send_points.specs.SendPoints.{next_by}
use Rattle.send_points.proofs.asks.Goals as goal

pub returns : goal.returns
unfolding next_by
returns c = λ h. refl
