use mathlib.Core.Path.{sym, ◌∙◌}
use Rattle.reply_points.specs.ReplyPoints.{next_of}
use Rattle.plans.specs.Plans.{before_in}
use Rattle.plans.proofs.Laws.{next-on, next-off}
use Rattle.plans.proofs.exchange_plan.Goals as goal

pub returns-then-on : goal.returns-then-on
returns-then-on c = record { on = λ l s h x i. next-on c.args.j l c.args.g s h x c.args.n i (sym c.goes_on-on.ensures.on ∙ c.if-on.true) ∙ c.plan_of.ensures l s h (before_in (next_of c.args.n x)); laid = c.goes_on-on.ensures.laid; kept = c.goes_on-on.ensures.kept }

pub returns : goal.returns
returns c = record { on = λ l s h x i. next-off c.args.j l c.args.g s h x c.args.n i (sym c.goes_on-on.ensures.on ∙ c.if-on.false) ∙ c.stop_plan.ensures c.args.j l s h (before_in (next_of c.args.n x)); laid = c.goes_on-on.ensures.laid; kept = c.goes_on-on.ensures.kept }
