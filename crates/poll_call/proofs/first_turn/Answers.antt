use mathlib.Core.Path.{◌≡◌, sym, ◌∙◌}
use mathlib.Core.Bool.{true≢false}
use native.Mathlib.Omega.{arith}
use mathlib.Core.List.{[]}
use lib.ListN.{drop, length}
use Rattle.wlan.specs.declared.DriverError.{DriverError}
use Rattle.definition.specs.Run.{End}
use Rattle.device.specs.Poll.{poll_op}
use Rattle.device.specs.Meaning.{arrival_at}
use Rattle.control.specs.declared.CallNext.{CallNext}
use Rattle.control.specs.declared.CallPoint.{CallPoint}
use Rattle.control.specs.Steps.{call_op}
use Rattle.control.specs.Meaning.{call_tree, Kc, secret_at}
use Rattle.session_bytes.specs.Session.{session_in}
use Rattle.poll_report.specs.PollReport.{Gives}
use Rattle.poll_now.specs.PollNow.{NextBy}
use Rattle.polls.specs.Polls.{first_point}
use Rattle.turning.specs.Turning as turning
use Rattle.turning.proofs.Laws as law
use Rattle.poll_call.specs.PollCall as to
use Rattle.poll_call.proofs.Laws.{gives-ends, first-steps, first-faults, over-turns, on-turns, front_of, front_same, front-then}
use borrow.Author.Rules.{rules}
use Rattle.poll_call.proofs.first_turn.Goals as goal
use Rattle.poll_call.proofs.first_turn.Goals.{After-first_read-n, After-tick_over}

log-kept : (c : After-first_read-n) → length c.first_ask-a.new.log ≡ length c.args.log.now
log-kept c = search rules

tick-kept : (c : After-tick_over) → length c.tick_over.new.log ≡ length c.args.log.now
tick-kept c = search rules

pub returns-then-is_back : goal.returns-then-is_back
unfolding call_tree call_op NextBy
returns-then-is_back c = record { on = λ e buf. over-turns e _ c.args.rec.now _ c.args.s.now buf _ c.over.ensures.0 c.over.ensures.1 (law.asked-back (poll_op (first_point c.args.marked)) c.first_ask-a.result (c.first_ask-a.ensures buf) e (secret_at to.no_args (CallPoint.Poll (first_point c.args.marked))) (λ y. Kc to.no_args (CallPoint.Poll (first_point c.args.marked)) y (turning.world_in c.args.s.now buf)) c.args.s.now c.back_end.result (λ on. c.back_end.ensures e on _ c.args.s.now buf (sym c.is_back.ensures ∙ c.if-is_back.true))); held = front_same c.requires; grew = λ t. absurd (true≢false (sym t ∙ c.over.ensures.0)) }

pub returns-then-a : goal.returns-then-a
unfolding call_tree call_op NextBy
returns-then-a c = record { on = λ e buf. over-turns e _ c.args.rec.now _ c.args.s.now buf _ c.over-then-a.ensures.0 (c.over-then-a.ensures.1 ∙ c.fault_end.ensures) (law.asked-fault (poll_op (first_point c.args.marked)) c.first_ask-a.result (c.first_ask-a.ensures buf) e (secret_at to.no_args (CallPoint.Poll (first_point c.args.marked))) (λ y. Kc to.no_args (CallPoint.Poll (first_point c.args.marked)) y (turning.world_in c.args.s.now buf)) c.args.s.now (law.not_back _ (sym c.is_back.ensures ∙ c.if-is_back.false)) c.if-a.true (λ y hv i hb. first-faults y buf e (drop c.first_ask-a.result.pos c.args.rec.now) _ c.first_ask-a.result.len c.args.marked c.args.s.now c.first_ask-a.result.value i hv)); held = front_same c.requires; grew = λ t. absurd (true≢false (sym t ∙ c.over-then-a.ensures.0)) }

pub tick_over-requires : goal.tick_over-requires
tick_over-requires c = (c.first_read-n.ensures (arrival_at (poll_op (first_point c.args.marked)) [] (session_in c.args.s.now).st.sdpcm)).held.known

pub returns-in-Ask : goal.returns-in-Ask
unfolding call_tree call_op NextBy
returns-in-Ask c = record { on = λ e buf. law.asked-value (poll_op (first_point c.args.marked)) c.first_ask-a.result (c.first_ask-a.ensures buf) e (secret_at to.no_args (CallPoint.Poll (first_point c.args.marked))) (λ y. Kc to.no_args (CallPoint.Poll (first_point c.args.marked)) y (turning.world_in c.args.s.now buf)) c.args.s.now (λ (x : End). to.Turns e x c.args.rec.now c.onward.result c.first_ask-a.new.log c.first_read-n.new.s buf) (law.not_back _ (sym c.is_back.ensures ∙ c.if-is_back.false)) c.if-a.false (λ y hv i hb. let k = c.first_read-n.ensures (arrival_at (poll_op (first_point c.args.marked)) buf (session_in c.args.s.now).st.sdpcm) in rw (← first-steps y buf e (drop c.first_ask-a.result.pos c.args.rec.now) _ c.first_ask-a.result.len c.args.marked c.first_read-n.result c.args.s.now c.first_ask-a.result.value i hv k) (let g : to.asks_at c.first_read-n.result.at ≡ _ = rw c.in-Ask.is at k.next in rw (← g) (on-turns e c.args.rec.now c.first_ask-a.new.log c.first_read-n.new.s buf _ c.first_read-n.result.at c.first_ask-a.result.pos c.first_ask-a.result.len c.onward.ensures.0 c.onward.ensures.1 c.onward.ensures.2 c.onward.ensures.3))); held = front_of c.requires (c.first_read-n.ensures (arrival_at (poll_op (first_point c.args.marked)) [] (session_in c.args.s.now).st.sdpcm)); grew = λ t. omega (arith, c.onward.ensures.3, (law.asked-grew (c.first_ask-a.ensures []) (law.not_back _ (sym c.is_back.ensures ∙ c.if-is_back.false))).1) }

pub shape_of-log-in-Tick : goal.shape_of-log-in-Tick
shape_of-log-in-Tick c = tick-kept (goal.at.shape_of-log-in-Tick c).After-tick_over

pub returns-in-Tick : goal.returns-in-Tick
unfolding call_tree call_op NextBy
returns-in-Tick c = record { on = λ e buf. law.asked-value (poll_op (first_point c.args.marked)) c.first_ask-a.result (c.first_ask-a.ensures buf) e (secret_at to.no_args (CallPoint.Poll (first_point c.args.marked))) (λ y. Kc to.no_args (CallPoint.Poll (first_point c.args.marked)) y (turning.world_in c.args.s.now buf)) c.args.s.now (λ (x : End). to.Turns e x c.args.rec.now c.over-in-Tick.result c.tick_over.new.log c.tick_over.new.s buf) (law.not_back _ (sym c.is_back.ensures ∙ c.if-is_back.false)) c.if-a.false (λ y hv i hb. let k = c.first_read-n.ensures (arrival_at (poll_op (first_point c.args.marked)) buf (session_in c.args.s.now).st.sdpcm) in rw (← first-steps y buf e (drop c.first_ask-a.result.pos c.args.rec.now) _ c.first_ask-a.result.len c.args.marked c.first_read-n.result c.args.s.now c.first_ask-a.result.value i hv k) (let g : CallNext.Ask (CallPoint.PollTick c.first_read-n.result.started) ≡ _ = rw c.in-Tick.is at k.next in rw (← g) (over-turns e _ c.args.rec.now _ _ buf _ c.over-in-Tick.ensures.0 c.over-in-Tick.ensures.1 (c.tick_over.ensures.on e buf)))); held = front-then (front_of c.requires (c.first_read-n.ensures (arrival_at (poll_op (first_point c.args.marked)) [] (session_in c.args.s.now).st.sdpcm))) c.tick_over.ensures.held; grew = λ t. absurd (true≢false (sym t ∙ c.over-in-Tick.ensures.0)) }

pub shape_of-log-in-Over : goal.shape_of-log-in-Over
shape_of-log-in-Over c = log-kept (goal.at.shape_of-log-in-Over c).After-first_read-n

pub returns-in-Over : goal.returns-in-Over
unfolding call_tree call_op NextBy
returns-in-Over c = record { on = λ e buf. law.asked-value (poll_op (first_point c.args.marked)) c.first_ask-a.result (c.first_ask-a.ensures buf) e (secret_at to.no_args (CallPoint.Poll (first_point c.args.marked))) (λ y. Kc to.no_args (CallPoint.Poll (first_point c.args.marked)) y (turning.world_in c.args.s.now buf)) c.args.s.now (λ (x : End). to.Turns e x c.args.rec.now c.over-in-Over.result c.first_ask-a.new.log c.first_read-n.new.s buf) (law.not_back _ (sym c.is_back.ensures ∙ c.if-is_back.false)) c.if-a.false (λ y hv i hb. let k = c.first_read-n.ensures (arrival_at (poll_op (first_point c.args.marked)) buf (session_in c.args.s.now).st.sdpcm) in rw (← first-steps y buf e (drop c.first_ask-a.result.pos c.args.rec.now) _ c.first_ask-a.result.len c.args.marked c.first_read-n.result c.args.s.now c.first_ask-a.result.value i hv k) (let g : Gives _ c.first_read-n.result.report = rw c.in-Over.is at k.next in over-turns e _ c.args.rec.now _ _ buf _ c.over-in-Over.ensures.0 (c.over-in-Over.ensures.1 ∙ c.polled_end.ensures) (gives-ends e _ c.first_read-n.result.report (drop c.first_ask-a.result.pos c.args.rec.now) c.first_ask-a.new.log c.first_read-n.new.s buf c.first_ask-a.result.len g))); held = front_of c.requires (c.first_read-n.ensures (arrival_at (poll_op (first_point c.args.marked)) [] (session_in c.args.s.now).st.sdpcm)); grew = λ t. absurd (true≢false (sym t ∙ c.over-in-Over.ensures.0)) }

pub shape_of-log-in-HeaderBeyond : goal.shape_of-log-in-HeaderBeyond
shape_of-log-in-HeaderBeyond c = log-kept (goal.at.shape_of-log-in-HeaderBeyond c).After-first_read-n

pub returns-in-HeaderBeyond : goal.returns-in-HeaderBeyond
unfolding call_tree call_op NextBy
returns-in-HeaderBeyond c = record { on = λ e buf. law.asked-value (poll_op (first_point c.args.marked)) c.first_ask-a.result (c.first_ask-a.ensures buf) e (secret_at to.no_args (CallPoint.Poll (first_point c.args.marked))) (λ y. Kc to.no_args (CallPoint.Poll (first_point c.args.marked)) y (turning.world_in c.args.s.now buf)) c.args.s.now (λ (x : End). to.Turns e x c.args.rec.now c.over-in-HeaderBeyond.result c.first_ask-a.new.log c.first_read-n.new.s buf) (law.not_back _ (sym c.is_back.ensures ∙ c.if-is_back.false)) c.if-a.false (λ y hv i hb. let k = c.first_read-n.ensures (arrival_at (poll_op (first_point c.args.marked)) buf (session_in c.args.s.now).st.sdpcm) in rw (← first-steps y buf e (drop c.first_ask-a.result.pos c.args.rec.now) _ c.first_ask-a.result.len c.args.marked c.first_read-n.result c.args.s.now c.first_ask-a.result.value i hv k) (let g : CallNext.Refused DriverError.EventHeader ≡ _ = rw c.in-HeaderBeyond.is at k.next in rw (← g) (over-turns e _ c.args.rec.now _ _ buf _ c.over-in-HeaderBeyond.ensures.0 (c.over-in-HeaderBeyond.ensures.1 ∙ c.error_end.ensures.0) (law.stopped e DriverError.EventHeader (drop c.first_ask-a.result.pos c.args.rec.now) c.first_ask-a.new.log c.first_read-n.new.s buf c.first_ask-a.result.len c.error_end.ensures.1)))); held = front_of c.requires (c.first_read-n.ensures (arrival_at (poll_op (first_point c.args.marked)) [] (session_in c.args.s.now).st.sdpcm)); grew = λ t. absurd (true≢false (sym t ∙ c.over-in-HeaderBeyond.ensures.0)) }
