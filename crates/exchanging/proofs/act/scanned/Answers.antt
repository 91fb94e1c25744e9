use Rattle.control.specs.Exchange.{scan_step}
use Rattle.exchanging.proofs.Laws.{scan-cleared}
use Rattle.exchanging.proofs.act.scanned.Goals as goal

pub returns : goal.returns
unfolding scan_step
returns c = λ h before. scan-cleared _ _ c.requires c.put_marks.ensures c.clear.ensures c.end.ensures
