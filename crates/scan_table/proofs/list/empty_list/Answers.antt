use mathlib.Core.Path.{refl}
use Rattle.scan_table.specs.Table.{empty_records}
use Rattle.scan_table.proofs.list.empty_list.Goals as goal

pub returns : goal.returns
unfolding empty_records
returns c = (rw c.empty_record-none.ensures, refl)
