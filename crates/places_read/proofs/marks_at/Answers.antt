use native.Mathlib.Omega.{arith}
use lib.Seq.{get_or-take}
use Rattle.state_bytes.specs.StateBytes.{state_in, marks_in}
use Rattle.session_bytes.specs.Session.{session_in}
use Rattle.places_read.proofs.marks_at.Goals as goal

pub returns : goal.returns
unfolding session_in state_in marks_in
returns c = rw (get_or-take 7 c.args.s.now 5 0 (omega arith), get_or-take 7 c.args.s.now 6 0 (omega arith))
