use mathlib.Core.Path.{refl}
use Rattle.definition.specs.Scan.{cleared}
use Rattle.scan_table.proofs.list.clear.Goals as goal

pub returns : goal.returns
unfolding cleared
returns c = λ table count. refl
