use Rattle.connect_failure.specs.Parts.{failure_parts}
use Rattle.connect_failure.proofs.failure_parts.Goals as goal

pub returns-in-None : goal.returns-in-None
unfolding failure_parts
returns-in-None c = simp c.in-None.is c.failed.ensures

pub returns-in-Some : goal.returns-in-Some
unfolding failure_parts
returns-in-Some c = simp c.in-Some.is c.failure_kind.ensures
