use mathlib.Core.Bool.{false}
use Prim.Native.Nat.{◌%◌, ◌<◌, ◌≤◌}
use native.Mathlib.Omega.{arith}
use borrow.Author.Tests.{lt-ltb, le-ltb}
use Rattle.control.specs.declared.Before.{Before}
use Rattle.control.specs.Exchange.{settle_step}
use Rattle.plans.specs.Plans.{pause_by}
use Rattle.plans.proofs.clock_plan.Goals as goal

pub returns-then-e-lt150000 : goal.returns-then-e-lt150000
unfolding settle_step pause_by
returns-then-e-lt150000 c = λ j l s. let e : c.elapsed_us.result % 4294967296 < 150000 = omega arith in simp (← c.elapsed_us.ensures, lt-ltb _ _ e) (c.waits.ensures j l s false Before.None)

pub returns : goal.returns
unfolding settle_step
returns c = λ j l s. let e : 150000 ≤ c.elapsed_us.result % 4294967296 = omega arith in simp (← c.elapsed_us.ensures, le-ltb _ _ e) (c.begins.ensures j l s false Before.None)
