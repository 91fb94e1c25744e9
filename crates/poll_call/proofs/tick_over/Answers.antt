use mathlib.Core.Path.{sym, ◌∙◌}
use lib.ListN.{drop}
use Rattle.wlan.specs.declared.BusOp.{BusOp}
use Rattle.definition.specs.Run.{End}
use Rattle.control.specs.declared.CallPoint.{CallPoint}
use Rattle.control.specs.Steps.{call_op}
use Rattle.control.specs.Meaning.{call_tree, Kc, secret_at}
use Rattle.turning.specs.Turning as turning
use Rattle.turning.proofs.Laws as law
use Rattle.poll_call.specs.PollCall as to
use Rattle.poll_call.proofs.Laws.{reports, tick-ends, tick-faults, front_of, front_same}
use Rattle.poll_call.proofs.tick_over.Goals as goal

pub returns-then-is_back : goal.returns-then-is_back
unfolding call_tree call_op
returns-then-is_back c = record { on = λ e buf. let q = CallPoint.PollTick c.args.started in let w = turning.world_in c.args.s.now buf in law.asked-back BusOp.ReadTick c.ask_tick-a.result (c.ask_tick-a.ensures buf) e (secret_at to.no_args q) (λ y. Kc to.no_args q y w) c.args.s.now c.back_end.result (λ on. c.back_end.ensures e on _ c.args.s.now buf (sym c.is_back.ensures ∙ c.if-is_back.true)); held = front_same c.requires }

pub returns-then-a : goal.returns-then-a
unfolding call_tree call_op
returns-then-a c = record { on = λ e buf. let q = CallPoint.PollTick c.args.started in let w = turning.world_in c.args.s.now buf in rw c.fault_end.ensures (law.asked-fault BusOp.ReadTick c.ask_tick-a.result (c.ask_tick-a.ensures buf) e (secret_at to.no_args q) (λ y. Kc to.no_args q y w) c.args.s.now (law.not_back _ (sym c.is_back.ensures ∙ c.if-is_back.false)) c.if-a.true (λ y hv i hb. tick-faults c.args.started y buf e (drop c.ask_tick-a.result.pos c.args.rec.now) _ c.ask_tick-a.result.len c.args.s.now c.ask_tick-a.result.value i hv)); held = front_same c.requires }

pub returns : goal.returns
unfolding call_tree call_op
returns c = record { on = λ e buf. let q = CallPoint.PollTick c.args.started in let w = turning.world_in c.args.s.now buf in rw c.polled_end.ensures (law.asked-value BusOp.ReadTick c.ask_tick-a.result (c.ask_tick-a.ensures buf) e (secret_at to.no_args q) (λ y. Kc to.no_args q y w) c.args.s.now (λ (x : End). turning.Ends e x (reports c.poll_tick.result c.ask_tick-a.result.len) c.ask_tick-a.new.log c.poll_tick.new.s buf) (law.not_back _ (sym c.is_back.ensures ∙ c.if-is_back.false)) c.if-a.false (λ y hv i hb. tick-ends c.args.started y buf e (drop c.ask_tick-a.result.pos c.args.rec.now) _ c.ask_tick-a.result.len c.args.s.now c.ask_tick-a.result.value c.poll_tick.result hv c.poll_tick.ensures)); held = front_of c.requires c.poll_tick.ensures }
