use mathlib.Core.Path.{◌≡◌, sym, ◌∙◌}
use mathlib.Core.Bool.{true≢false}
use Prim.Native.Nat.{◌%◌}
use native.Mathlib.Omega.{arith}
use Rattle.control.specs.Begin.{call_answer}
use Rattle.control.specs.Exchange.{clock_answer, tick_answer}
use Rattle.exchange_call.specs.ExchangeCall.{point_by}
use Rattle.exchange_call.proofs.Laws.{waits}
use Rattle.exchange_call.proofs.answer_plan.Goals as goal

pub returns-then-fault : goal.returns-then-fault
unfolding point_by call_answer clock_answer
returns-then-fault c = record { faulted = λ f n ns j l s z. let w : c.args.v % 256 ≡ c.args.v = omega (arith, n) in rw c.in-Clock.is (rw w at (c.fault_plan.ensures j l s)); told = λ f. absurd (true≢false (sym c.if-fault.true ∙ f)) }

pub returns-in-Clock : goal.returns-in-Clock
unfolding point_by call_answer clock_answer
returns-in-Clock c = record { faulted = λ f. absurd (true≢false (sym f ∙ c.if-fault.false)); told = λ f ns j l s z. rw c.in-Clock.is (c.clock_plan.ensures j l s) }

pub returns-then-fault-2 : goal.returns-then-fault-2
unfolding point_by call_answer tick_answer
returns-then-fault-2 c = record { faulted = λ f n ns j l s z. let w : c.args.v % 256 ≡ c.args.v = omega (arith, n) in rw c.in-Tick.is (rw w at (c.fault_plan-then-fault-2.ensures j l s)); told = λ f. absurd (true≢false (sym c.if-fault-2.true ∙ f)) }

pub returns-in-Tick : goal.returns-in-Tick
unfolding point_by call_answer
returns-in-Tick c = record { faulted = λ f. absurd (true≢false (sym f ∙ c.if-fault-2.false)); told = λ f ns j l s z. rw c.in-Tick.is (c.tick_plan.ensures j l s) }

pub returns-in_default : goal.returns-in_default
unfolding call_answer
returns-in_default c = record { faulted = λ f n ns j l s z. rw (waits c.args.p ns c.args.k c.in_default.not-Clock c.in_default.not-Tick) (c.resume_of.ensures ns j l s); told = λ f ns j l s z. rw (waits c.args.p ns c.args.k c.in_default.not-Clock c.in_default.not-Tick) (c.resume_of.ensures ns j l s) }
