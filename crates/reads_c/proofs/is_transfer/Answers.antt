use mathlib.Core.Path.{refl}
use Rattle.reads_c.proofs.is_transfer.Goals as goal

pub returns : goal.returns
returns c = refl
