use Rattle.control.specs.Exchange as to
use Rattle.plans.specs.Plans.{state_by, put_by}
use Rattle.plans.proofs.begins.Goals as goal

pub returns : goal.returns
unfolding to.begins state_by put_by
returns c = λ j l s h before. c.begin_at.ensures j l s h before
