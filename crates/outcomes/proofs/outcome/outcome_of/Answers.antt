use mathlib.Core.Path.{◌∙◌}
use Rattle.connect_failure.proofs.Laws.{failure-back}
use Rattle.run_end.specs.RunEnd as to
use Rattle.outcomes.proofs.Laws.{outcome-back, small-back}
use Rattle.outcomes.proofs.outcome.outcome_of.Goals as goal

pub returns : goal.returns
returns c = λ o t. rw (t.kind, t.value, c.failure_of.ensures, t.failure, failure-back (to.failed_of o)) at (c.outcome_by.ensures (rw (t.kind, t.value) (small-back o t.fits))) ∙ outcome-back o
