use mathlib.Core.Path.{sym, ◌∙◌}
use Rattle.control.specs.Exchange.{key_step}
use Rattle.plans.specs.Plans.{plan_by}
use Rattle.plans.proofs.key_plan.Goals as goal

pub returns-then-pmk : goal.returns-then-pmk
unfolding key_step plan_by
returns-then-pmk c = λ j l s h before e. simp (e, sym c.pmk.ensures ∙ c.if-pmk.true, c.only.ensures)

pub returns : goal.returns
unfolding key_step
returns c = λ j l s h before e. simp (e, sym c.pmk.ensures ∙ c.if-pmk.false) (c.sae_plan.ensures j l s h before e)
