use mathlib.Core.Path.{sym, ◌∙◌}
use Rattle.control.specs.Exchange.{sae_step}
use Rattle.plans.specs.Plans.{pause_by}
use Rattle.plans.proofs.sae_plan.Goals as goal

pub returns-then-sae : goal.returns-then-sae
unfolding sae_step pause_by
returns-then-sae c = λ j l s h before e. simp (e, sym c.sae.ensures ∙ c.if-sae.true) (c.pauses.ensures j l s h before)

pub returns : goal.returns
unfolding sae_step
returns c = λ j l s h before e. simp (e, sym c.sae.ensures ∙ c.if-sae.false) (c.begins.ensures j l s h before)
