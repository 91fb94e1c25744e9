use Rattle.state_bytes.proofs.Laws.{eight-is}
use Rattle.hearing.proofs.Laws.{count-here}
use Rattle.hearing.proofs.count_in.Goals as goal

pub returns : goal.returns
returns c = rw (count-here c.args.s.now, eight-is _ _ _ _ _ _ _ _ c.from_le_bytes.ensures)
