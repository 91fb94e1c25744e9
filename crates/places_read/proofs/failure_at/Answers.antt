use Rattle.state_bytes.specs.StateBytes.{state_in, link_in}
use Rattle.session_bytes.specs.Session.{session_in}
use Rattle.state_bytes.proofs.Laws.{quad-is}
use Rattle.places_read.proofs.Laws.{failure-here}
use Rattle.places_read.proofs.failure_at.Goals as goal

pub returns : goal.returns
unfolding session_in state_in link_in
returns c = rw (c.failure_of.ensures, quad-is _ _ _ _ c.from_le_bytes.ensures, quad-is _ _ _ _ c.from_le_bytes-2.ensures, failure-here c.args.s.now)
