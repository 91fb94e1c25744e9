use mathlib.Core.Path.{◌∙◌}
use Rattle.control.specs.Exchange.{length_step}
use Rattle.plans.specs.Plans.{plan_by}
use Rattle.plans.proofs.length_plan.Goals as goal

pub returns-then-long : goal.returns-then-long
unfolding length_step plan_by
returns-then-long c = λ j l s h before e. simp (e ∙ c.if-long.true, c.refuses.ensures.0, c.refuses.ensures.1)

pub returns : goal.returns
unfolding length_step
returns c = λ j l s h before e. simp (e ∙ c.if-long.false) (c.begins.ensures j l s h before)
