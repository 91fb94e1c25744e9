use mathlib.Core.Path.{refl}
use Rattle.definition.specs.Request.{event_mask, unwanted}
use Rattle.variables.proofs.event_mask.Goals as goal

pub returns : goal.returns
unfolding event_mask unwanted
returns c = refl
