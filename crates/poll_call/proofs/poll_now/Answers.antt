use mathlib.Core.Path.{◌≡◌, sym, ◌∙◌, subst}
use mathlib.Core.Bool.{true≢false}
use lib.ListN.{drop}
use Rattle.wlan.specs.declared.DriverError.{DriverError}
use Rattle.control.specs.declared.CallNext.{CallNext}
use Rattle.control.specs.declared.CallPoint.{CallPoint}
use Rattle.control.specs.Meaning.{call_tree}
use Rattle.poll_report.specs.PollReport.{Gives}
use Rattle.poll_now.specs.PollNow.{NextBy}
use Rattle.going.specs.Onward.{go}
use Rattle.turning.specs.Turning as turning
use Rattle.turning.proofs.Laws as law
use Rattle.poll_call.specs.PollCall as to
use Rattle.poll_call.proofs.Laws.{gives-ends, over-turns, on-turns, front_same}
use Rattle.poll_call.proofs.poll_now.Goals as goal

pub returns-in-Ask : goal.returns-in-Ask
unfolding NextBy
returns-in-Ask c = record { on = λ e buf x h. let g : to.asks_at c.args.n.at ≡ x = rw c.in-Ask.is at h in subst (λ (z : CallNext). to.Turns e (go e (drop c.args.pos c.args.rec.now) c.args.log.now c.args.len (call_tree to.no_args z (turning.world_in c.args.s.now buf))) c.args.rec.now c.onward.result c.args.log.now c.args.s.now buf) g (on-turns e c.args.rec.now c.args.log.now c.args.s.now buf _ c.args.n.at c.args.pos c.args.len c.onward.ensures.0 c.onward.ensures.1 c.onward.ensures.2 c.onward.ensures.3); held = front_same c.requires; grew = λ t. c.onward.ensures.3 }

pub returns-in-Tick : goal.returns-in-Tick
unfolding NextBy
returns-in-Tick c = record { on = λ e buf x h. let g : CallNext.Ask (CallPoint.PollTick c.args.n.started) ≡ x = rw c.in-Tick.is at h in subst (λ (z : CallNext). to.Turns e (go e (drop c.args.pos c.args.rec.now) c.args.log.now c.args.len (call_tree to.no_args z (turning.world_in c.args.s.now buf))) c.args.rec.now c.over.result c.tick_over.new.log c.tick_over.new.s buf) g (over-turns e _ c.args.rec.now _ _ buf _ c.over.ensures.0 c.over.ensures.1 (c.tick_over.ensures.on e buf)); held = c.tick_over.ensures.held; grew = λ t. absurd (true≢false (sym t ∙ c.over.ensures.0)) }

pub returns-in-Over : goal.returns-in-Over
unfolding NextBy
returns-in-Over c = record { on = λ e buf x h. let g : Gives x c.args.n.report = rw c.in-Over.is at h in over-turns e _ c.args.rec.now _ _ buf _ c.over-in-Over.ensures.0 (c.over-in-Over.ensures.1 ∙ c.polled_end.ensures) (gives-ends e x c.args.n.report (drop c.args.pos c.args.rec.now) c.args.log.now c.args.s.now buf c.args.len g); held = front_same c.requires; grew = λ t. absurd (true≢false (sym t ∙ c.over-in-Over.ensures.0)) }

pub returns-in-HeaderBeyond : goal.returns-in-HeaderBeyond
unfolding NextBy call_tree
returns-in-HeaderBeyond c = record { on = λ e buf x h. let g : CallNext.Refused DriverError.EventHeader ≡ x = rw c.in-HeaderBeyond.is at h in subst (λ (z : CallNext). to.Turns e (go e (drop c.args.pos c.args.rec.now) c.args.log.now c.args.len (call_tree to.no_args z (turning.world_in c.args.s.now buf))) c.args.rec.now c.over-in-HeaderBeyond.result c.args.log.now c.args.s.now buf) g (over-turns e _ c.args.rec.now _ _ buf _ c.over-in-HeaderBeyond.ensures.0 (c.over-in-HeaderBeyond.ensures.1 ∙ c.error_end.ensures.0) (law.stopped e DriverError.EventHeader (drop c.args.pos c.args.rec.now) c.args.log.now c.args.s.now buf c.args.len c.error_end.ensures.1)); held = front_same c.requires; grew = λ t. absurd (true≢false (sym t ∙ c.over-in-HeaderBeyond.ensures.0)) }
