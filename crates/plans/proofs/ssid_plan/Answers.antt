use mathlib.Core.Path.{◌∙◌}
use Rattle.control.specs.Exchange as to
use Rattle.plans.specs.Plans.{plan_by, state_by, put_by}
use Rattle.plans.proofs.ssid_plan.Goals as goal

pub returns-then-long : goal.returns-then-long
unfolding to.ssid_step plan_by
returns-then-long c = λ j l s h before e. simp (e ∙ c.if-long.true, c.only.ensures)

pub returns : goal.returns
unfolding to.ssid_step to.begins state_by put_by
returns c = λ j l s h before e. simp (e ∙ c.if-long.false) (c.begin_at.ensures j l s h before)
