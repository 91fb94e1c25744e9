use Rattle.state_bytes.specs.StateBytes.{state_in, link_in}
use Rattle.session_bytes.specs.Session.{session_in}
use Rattle.places_read.proofs.Laws.{state-here}
use Rattle.places_read.proofs.wifi_at.Goals as goal

pub returns : goal.returns
unfolding session_in state_in link_in
returns c = rw (c.wifi_of.ensures, state-here c.args.s.now)
