use mathlib.Core.Path.{refl}
use Rattle.plans.specs.Plans.{plan_by}
use Rattle.plans.proofs.fault_plan.Goals as goal

pub returns : goal.returns
unfolding plan_by
returns c = λ j l s. rw (c.refuses.ensures.0, c.refuses.ensures.1) refl
