use mathlib.Core.Path.{◌≡◌}
use Prim.Native.Nat.{◌%◌}
use Rattle.poll_points.specs.PollPoints.{point_by}
use Rattle.control.specs.Poll.{poll_point, next_step, packet_step}
use Rattle.device.specs.Poll.{poll_answer, valued_step, interrupt_step, acknowledged}
use Rattle.poll_now.proofs.Laws.{asked}
use Rattle.polls.proofs.Laws.{acknowledges}
use Rattle.polls.proofs.first_interrupt.Goals as goal

pub returns-then-i-eq0 : goal.returns-then-i-eq0
unfolding poll_point next_step packet_step poll_answer valued_step interrupt_step acknowledged
returns-then-i-eq0 c = λ a. let e : c.args.v % 65536 ≡ 0 = c.if-i-eq0.true in rw e c.nothing.ensures

pub returns : goal.returns
unfolding point_by
returns c = λ a. acknowledges c.asks.result c.args.s.now c.args.v a c.requires c.if-i-eq0.false (asked c.asks.result c.asks.ensures.0 c.asks.ensures.1)
