use Prim.Native.Nat.{◌<◌, ◌≤◌}
use native.Mathlib.Omega.{arith}
use borrow.Author.Tests.{lt-ltb, le-ltb}
use Rattle.send.specs.Send.{late_step}
use Rattle.send_points.specs.SendPoints.{point_by}
use Rattle.send_points.proofs.stall_late.Goals as goal
use Rattle.std.specs.Prelude.{None}

pub returns-then-elapsed_us-gt1000000 : goal.returns-then-elapsed_us-gt1000000
unfolding late_step
returns-then-elapsed_us-gt1000000 c = let e : 1000000 < c.elapsed_us.result = omega arith in λ s. simp (← c.elapsed_us.ensures, lt-ltb _ _ e, c.refuse.ensures None)

pub returns : goal.returns
unfolding late_step point_by
returns c = let e : c.elapsed_us.result ≤ 1000000 = omega arith in λ s. simp (← c.elapsed_us.ensures, le-ltb _ _ e, c.waits.ensures None)
