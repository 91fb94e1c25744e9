use Rattle.state_bytes.specs.StateBytes.{state_in, pending_in}
use Rattle.session_bytes.specs.Session.{session_in}
use Rattle.state_bytes.proofs.Laws.{pair-is}
use Rattle.places_read.proofs.Laws.{frame_here}
use Rattle.places_read.proofs.frame_at.Goals as goal

pub returns : goal.returns
unfolding session_in state_in pending_in
returns c = rw (c.frame_of.ensures, pair-is _ _ c.from_le_bytes.ensures, pair-is _ _ c.from_le_bytes-2.ensures, frame_here c.args.s.now)
