use native.Mathlib.Omega.{arith}
use lib.ListN.{length-take}
use Rattle.limits.proofs.try_up.Goals as goal

pub slice_bounds-up-end-3 : goal.slice_bounds-up-end-3
slice_bounds-up-end-3 c = omega (arith, c.requires.n_in_bounds, length-take c.args.n c.args.log.now)

pub slice_bounds-up-end-5 : goal.slice_bounds-up-end-5
slice_bounds-up-end-5 c = omega (arith, c.requires.m_in_bounds, length-take c.args.m c.args.buf.now)
