use mathlib.Core.Path.{refl}
use Prim.Native.Nat.{◌<◌, ◌≤◌}
use native.Mathlib.Omega.{arith}
use borrow.Author.Tests.{lt-leb, le-leb}
use Rattle.control.specs.Poll.{timed_out_state}
use Rattle.poll_report.proofs.timed_out.Goals as goal

pub returns-then-elapsed_us-lt1000 : goal.returns-then-elapsed_us-lt1000
unfolding timed_out_state
returns-then-elapsed_us-lt1000 c = let e : c.elapsed_us.result < 1000 = omega arith in simp (← c.elapsed_us.ensures, lt-leb _ _ e) (record { known = c.requires; back = refl })

pub returns : goal.returns
unfolding timed_out_state
returns c = let e : 1000 ≤ c.elapsed_us.result = omega arith in simp (← c.elapsed_us.ensures, le-leb _ _ e) (rw (c.released.ensures, c.link_at.ensures) at c.put_link.ensures)
