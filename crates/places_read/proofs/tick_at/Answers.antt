use Rattle.state_bytes.specs.StateBytes.{state_in, link_in}
use Rattle.session_bytes.specs.Session.{session_in}
use Rattle.state_bytes.proofs.Laws.{eight-is}
use Rattle.places_read.proofs.Laws.{tick-here}
use Rattle.places_read.proofs.tick_at.Goals as goal

pub returns : goal.returns
unfolding session_in state_in link_in
returns c = rw (c.tick_of.ensures, eight-is _ _ _ _ _ _ _ _ c.from_le_bytes.ensures, tick-here c.args.s.now)
