use Prim.Native.Nat.{◌<◌, ◌≤◌}
use native.Mathlib.Omega.{arith}
use borrow.Author.Tests.{lt-ltb, le-ltb}
use Rattle.ioctl.specs.Ioctl.{test_step}
use Rattle.reply_points.specs.ReplyPoints.{point_by}
use Rattle.reply_points.proofs.test_read.Goals as goal
use Rattle.std.specs.Prelude.{None}

pub returns-then-elapsed_us-lt500000 : goal.returns-then-elapsed_us-lt500000
unfolding test_step point_by
returns-then-elapsed_us-lt500000 c = let e : c.elapsed_us.result < 500000 = omega arith in simp (← c.elapsed_us.ensures, lt-ltb _ _ e, ← c.poll_from.ensures, c.asks.ensures None)

pub returns-else-elapsed_us-lt500000 : goal.returns-else-elapsed_us-lt500000
unfolding test_step
returns-else-elapsed_us-lt500000 c = let e : 500000 ≤ c.elapsed_us.result = omega arith in simp (← c.elapsed_us.ensures, le-ltb _ _ e, c.refuse.ensures None)
