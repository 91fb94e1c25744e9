use mathlib.Core.Path.{sym, ◌∙◌}
use Rattle.plans.specs.Plans.{is_ignored}
use Rattle.plans.proofs.is_ignored.Goals as goal

pub returns-then-is_dev_error : goal.returns-then-is_dev_error
unfolding is_ignored
returns-then-is_dev_error c = simp (sym c.is_dev_error.ensures ∙ c.if-is_dev_error.true) c.is_tried.ensures

pub returns-else-is_dev_error : goal.returns-else-is_dev_error
unfolding is_ignored
returns-else-is_dev_error c = simp (sym c.is_dev_error.ensures ∙ c.if-is_dev_error.false)
