use mathlib.Core.Path.{refl}
use Rattle.plans.specs.Plans.{plan_by}
use Rattle.plans.proofs.waits.Goals as goal

pub returns : goal.returns
unfolding plan_by
returns c = λ j l s h before. refl
