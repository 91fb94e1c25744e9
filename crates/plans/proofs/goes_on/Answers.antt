use mathlib.Core.Path.{refl, ap, ◌∙◌}
use Rattle.definition.specs.Bus.{Bytes}
use Rattle.send.specs.Meaning.{laid_header}
use Rattle.control.specs.declared.Before.{Before}
use Rattle.control.specs.Meaning.{laid_before}
use Rattle.laying.specs.Laying.{copied}
use Rattle.reply_points.specs.ReplyPoints as reply
use Rattle.plans.specs.Plans.{goes_on, before_in}
use Rattle.plans.proofs.Laws.{same_kept}
use Rattle.plans.proofs.goes_on.Goals as goal

pub returns-in-Ask-clause-on : goal.returns-in-Ask-clause-on
unfolding goes_on before_in laid_before reply.header_in reply.next_by
returns-in-Ask-clause-on c = rw c.in-Ask.is refl

pub returns-in-Ask-clause-laid : goal.returns-in-Ask-clause-laid
unfolding goes_on before_in laid_before reply.header_in reply.next_by
returns-in-Ask-clause-laid c = rw c.in-Ask.is (λ x c₀ e. e)

pub returns-in-Done-clause-on : goal.returns-in-Done-clause-on
unfolding goes_on before_in laid_header reply.header_in reply.next_by
returns-in-Done-clause-on c = rw c.in-Done.is refl

pub returns-in-Done-clause-laid : goal.returns-in-Done-clause-laid
unfolding goes_on before_in laid_header reply.header_in reply.next_by
returns-in-Done-clause-laid c = rw c.in-Done.is (λ x c₀ e. c.copy_reply.ensures.laid ∙ ap (λ (b : Bytes). laid_before (Before.Copy (copied c.args.n.offset c.args.n.count)) b) e)

pub returns-in-Refused-clause-on : goal.returns-in-Refused-clause-on
unfolding goes_on before_in laid_before reply.header_in reply.next_by
returns-in-Refused-clause-on c = rw c.in-Refused.is c.is_ignored.ensures

pub returns-in-Refused-clause-laid : goal.returns-in-Refused-clause-laid
unfolding goes_on before_in laid_before reply.header_in reply.next_by
returns-in-Refused-clause-laid c = rw c.in-Refused.is (λ x c₀ e. e)
