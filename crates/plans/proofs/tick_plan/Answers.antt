use mathlib.Core.Path.{refl}
use Rattle.control.specs.Exchange.{tick_answer}
use Rattle.plans.specs.Plans.{plan_by}
use Rattle.plans.proofs.tick_plan.Goals as goal

pub returns : goal.returns
unfolding tick_answer plan_by
returns c = λ j l s. refl
