use native.Mathlib.Omega.{arith}
use lib.ListN.{length-take}
use Rattle.session_bytes.proofs.Laws.{session-length}
use Rattle.shown.proofs.print.end.Goals as goal

pub slice_bounds-b-items-end : goal.slice_bounds-b-items-end
slice_bounds-b-items-end c = simp length-take (omega (arith, session-length c.args.s.now c.requires))
