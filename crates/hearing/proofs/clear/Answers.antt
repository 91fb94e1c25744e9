use Rattle.session_bytes.proofs.Laws.{session-length}
use Rattle.hearing.proofs.Laws.{cleared-list}
use Rattle.hearing.proofs.clear.Goals as goal

pub returns : goal.returns
returns c = cleared-list c.args.s.now c.requires c.put_count.ensures
