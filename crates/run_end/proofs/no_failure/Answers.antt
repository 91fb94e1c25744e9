use mathlib.Core.Path.{refl}
use Rattle.connect_failure.specs.Parts.{failure_parts}
use Rattle.run_end.proofs.no_failure.Goals as goal

pub returns : goal.returns
unfolding failure_parts
returns c = refl
