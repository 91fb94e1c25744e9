use native.Mathlib.Omega.{arith}
use lib.Seq.{get_or-take}
use Rattle.state_bytes.specs.StateBytes.{state_in, sdpcm_in}
use Rattle.session_bytes.specs.Session.{session_in}
use Rattle.places_read.proofs.sdpcm_at.Goals as goal

pub returns : goal.returns
unfolding session_in state_in sdpcm_in
returns c = rw (get_or-take 7 c.args.s.now 0 0 (omega arith), get_or-take 7 c.args.s.now 1 0 (omega arith), get_or-take 7 c.args.s.now 2 0 (omega arith), get_or-take 7 c.args.s.now 3 0 (omega arith), get_or-take 7 c.args.s.now 4 0 (omega arith))
