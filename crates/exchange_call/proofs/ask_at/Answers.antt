use Rattle.control.specs.Steps.{call_op}
use Rattle.exchange_call.specs.ExchangeCall.{point_by}
use Rattle.exchange_call.proofs.Laws.{waits}
use Rattle.exchange_call.proofs.ask_at.Goals as goal

pub returns-in-Clock : goal.returns-in-Clock
unfolding point_by call_op
returns-in-Clock c = λ b. rw c.in-Clock.is (c.ask_clock.ensures b)

pub returns-in-Tick : goal.returns-in-Tick
unfolding point_by call_op
returns-in-Tick c = λ b. rw c.in-Tick.is (c.ask_tick.ensures b)

pub returns-in_default : goal.returns-in_default
unfolding call_op
returns-in_default c = λ b. rw (waits c.args.p c.args.ns c.args.k c.in_default.not-Clock c.in_default.not-Tick) (rw c.pause_ns.ensures at (c.ask_wait.ensures c.args.rec.now b))
