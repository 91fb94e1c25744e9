use mathlib.Core.Path.{sym, ◌∙◌}
use mathlib.Core.Bool.{true≢false}
use native.Mathlib.Omega.{arith}
use lib.ListN.{drop}
use Rattle.definition.specs.Run.{End}
use Rattle.device.specs.Poll.{poll_op}
use Rattle.control.specs.declared.CallPoint.{CallPoint}
use Rattle.control.specs.Steps.{call_op}
use Rattle.control.specs.Meaning.{call_tree, Kc, secret_at}
use Rattle.poll_points.specs.PollPoints.{point_of}
use Rattle.turning.specs.Turning as turning
use Rattle.turning.proofs.Laws as law
use Rattle.poll_call.specs.PollCall as to
use Rattle.poll_call.proofs.Laws.{poll-faults, poll-steps, over-turns}
use Rattle.poll_call.proofs.poll_turn.Goals as goal

pub returns-then-is_back : goal.returns-then-is_back
unfolding call_tree call_op
returns-then-is_back c = record { on = λ e. let q = CallPoint.Poll (point_of c.args.p) in over-turns e _ c.args.rec.now c.device_ask-a.new.log c.args.s.now c.device_ask-a.new.buf _ c.over.ensures.0 c.over.ensures.1 (law.asked-back (poll_op (point_of c.args.p)) c.device_ask-a.result c.device_ask-a.ensures.asks e (secret_at to.no_args q) (λ y. Kc to.no_args q y (turning.world_in c.args.s.now c.args.buf.now)) c.args.s.now c.back_end.result (λ on. c.back_end.ensures e on c.device_ask-a.new.log c.args.s.now c.device_ask-a.new.buf (sym c.is_back.ensures ∙ c.if-is_back.true))); held = c.requires.s_value; kept = record { kept = c.device_ask-a.ensures.kept.kept; session = c.device_ask-a.ensures.kept.session c.args.s.now; buf = c.device_ask-a.ensures.kept.buf }; grew = λ t. absurd (true≢false (sym t ∙ c.over.ensures.0)) }

pub returns-then-a : goal.returns-then-a
unfolding call_tree call_op
returns-then-a c = record { on = λ e. let q = CallPoint.Poll (point_of c.args.p) in over-turns e _ c.args.rec.now c.device_ask-a.new.log c.args.s.now c.device_ask-a.new.buf _ c.over-then-a.ensures.0 (c.over-then-a.ensures.1 ∙ c.fault_end.ensures) (law.asked-fault (poll_op (point_of c.args.p)) c.device_ask-a.result c.device_ask-a.ensures.asks e (secret_at to.no_args q) (λ y. Kc to.no_args q y (turning.world_in c.args.s.now c.args.buf.now)) c.args.s.now (law.not_back _ (sym c.is_back.ensures ∙ c.if-is_back.false)) c.if-a.true (λ y hv i hb. poll-faults c.args.p y c.args.buf.now c.device_ask-a.new.buf i hb e (drop c.device_ask-a.result.pos c.args.rec.now) c.device_ask-a.new.log c.device_ask-a.result.len c.args.s.now c.device_ask-a.result.value hv)); held = c.requires.s_value; kept = record { kept = c.device_ask-a.ensures.kept.kept; session = c.device_ask-a.ensures.kept.session c.args.s.now; buf = c.device_ask-a.ensures.kept.buf }; grew = λ t. absurd (true≢false (sym t ∙ c.over-then-a.ensures.0)) }

pub poll_now-requires : goal.poll_now-requires
poll_now-requires c = c.poll_answer-n.ensures.held.known

pub shape_of-log : goal.shape_of-log
shape_of-log c = omega (arith)

pub returns : goal.returns
unfolding call_tree call_op
returns c = let n = law.not_back _ (sym c.is_back.ensures ∙ c.if-is_back.false) in let m = c.poll_answer-n.ensures.kept in record { on = λ e. let q = CallPoint.Poll (point_of c.args.p) in law.asked-value (poll_op (point_of c.args.p)) c.device_ask-a.result c.device_ask-a.ensures.asks e (secret_at to.no_args q) (λ y. Kc to.no_args q y (turning.world_in c.args.s.now c.args.buf.now)) c.args.s.now (λ (x : End). to.Turns e x c.args.rec.now c.poll_now.result c.poll_now.new.log c.poll_now.new.s c.device_ask-a.new.buf) n c.if-a.false (λ y hv i hb. rw (poll-steps c.args.p y c.args.buf.now c.device_ask-a.new.buf i hb e (drop c.device_ask-a.result.pos c.args.rec.now) c.device_ask-a.new.log c.device_ask-a.result.len c.args.s.now c.device_ask-a.result.value hv c.poll_answer-n.ensures) at (c.poll_now.ensures.on e c.device_ask-a.new.buf _ c.poll_answer-n.ensures.next)); held = c.poll_now.ensures.held.known; kept = record { kept = m.kept; session = c.poll_now.ensures.held.back _ m.kept ∙ m.session ∙ c.device_ask-a.ensures.kept.session c.args.s.now; buf = m.buf _ ∙ c.device_ask-a.ensures.kept.buf }; grew = λ t. let g = law.asked-grew c.device_ask-a.ensures.asks n in let l = c.poll_now.ensures.grew t in (omega (arith, g.0, l), omega (arith, g.1, l)) }
