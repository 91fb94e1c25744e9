use Rattle.state_bytes.specs.StateBytes.{state_in, pending_in}
use Rattle.session_bytes.specs.Session.{session_in}
use Rattle.state_bytes.proofs.Laws.{pair-is, quad-is}
use Rattle.places_read.proofs.Laws.{reply-here}
use Rattle.places_read.proofs.reply_at.Goals as goal

pub returns : goal.returns
unfolding session_in state_in pending_in
returns c = rw (c.reply_of.ensures, pair-is _ _ c.from_le_bytes.ensures, pair-is _ _ c.from_le_bytes-2.ensures, quad-is _ _ _ _ c.from_le_bytes-3.ensures, reply-here c.args.s.now)
