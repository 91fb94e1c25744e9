use mathlib.Core.Path.{refl}
use Rattle.run_end.proofs.value_end.Goals as goal

pub returns : goal.returns
returns c = rw c.no_failure.ensures refl
