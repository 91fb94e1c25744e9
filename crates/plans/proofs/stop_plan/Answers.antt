use mathlib.Core.Path.{sym, ◌∙◌}
use Rattle.plans.specs.Plans.{stop_step, plan_by}
use Rattle.plans.proofs.stop_plan.Goals as goal

pub returns-then-is_last : goal.returns-then-is_last
unfolding stop_step plan_by
returns-then-is_last c = λ j l s h before. simp (sym c.is_dev_error.ensures ∙ c.if-is_dev_error.true, sym c.is_last.ensures ∙ c.if-is_last.true, c.refuses.ensures.0, c.refuses.ensures.1)

pub returns-then-is_dev_error : goal.returns-then-is_dev_error
unfolding stop_step plan_by
returns-then-is_dev_error c = λ j l s h before. simp (sym c.is_dev_error.ensures ∙ c.if-is_dev_error.true, sym c.is_last.ensures ∙ c.if-is_last.false, c.refuses-then-is_dev_error.ensures.0, c.refuses-then-is_dev_error.ensures.1)

pub returns : goal.returns
unfolding stop_step plan_by
returns c = λ j l s h before. simp (sym c.is_dev_error.ensures ∙ c.if-is_dev_error.false, c.refuses-2.ensures.0, c.refuses-2.ensures.1)
