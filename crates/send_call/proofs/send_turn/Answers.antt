use mathlib.Core.Path.{sym, ◌∙◌}
use mathlib.Core.Bool.{true≢false}
use native.Mathlib.Omega.{arith}
use lib.ListN.{drop}
use Rattle.send.specs.Send.{send_op}
use Rattle.control.specs.declared.CallPoint.{CallPoint}
use Rattle.control.specs.Steps.{call_op}
use Rattle.control.specs.Meaning.{call_tree, Kc, secret_at}
use Rattle.send_points.specs.SendPoints.{point_of}
use Rattle.turning.specs.Turning as turning
use Rattle.turning.proofs.Laws as law
use Rattle.send_call.specs.SendCall as to
use Rattle.send_call.proofs.Laws.{send-faults, send-steps, over-turns, turns-by, valued-turns}
use Rattle.send_call.proofs.send_turn.Goals as goal

pub returns-then-is_back : goal.returns-then-is_back
unfolding call_tree call_op
returns-then-is_back c = record { on = λ frame z e. let q = CallPoint.Send (point_of c.args.p) in over-turns frame e _ c.args.rec.now c.send_ask-a.new.log c.args.s.now c.send_ask-a.new.buf _ c.over.ensures.0 c.over.ensures.1 (law.asked-back (send_op (point_of c.args.p)) c.send_ask-a.result c.send_ask-a.ensures.asks e (secret_at (to.args_in frame) q) (λ y. Kc (to.args_in frame) q y (turning.world_in c.args.s.now c.args.buf.now)) c.args.s.now c.back_end.result (λ on. c.back_end.ensures e on c.send_ask-a.new.log c.args.s.now c.send_ask-a.new.buf (sym c.is_back.ensures ∙ c.if-is_back.true))); held = c.requires.s_value; kept = record { kept = c.send_ask-a.ensures.kept.kept; session = c.send_ask-a.ensures.kept.session c.args.s.now; buf = c.send_ask-a.ensures.kept.buf }; grew = λ t. absurd (true≢false (sym t ∙ c.over.ensures.0)) }

pub returns-then-a : goal.returns-then-a
unfolding call_tree call_op
returns-then-a c = record { on = λ frame z e. let q = CallPoint.Send (point_of c.args.p) in over-turns frame e _ c.args.rec.now c.send_ask-a.new.log c.args.s.now c.send_ask-a.new.buf _ c.over-then-a.ensures.0 (c.over-then-a.ensures.1 ∙ c.fault_end.ensures) (law.asked-fault (send_op (point_of c.args.p)) c.send_ask-a.result c.send_ask-a.ensures.asks e (secret_at (to.args_in frame) q) (λ y. Kc (to.args_in frame) q y (turning.world_in c.args.s.now c.args.buf.now)) c.args.s.now (law.not_back _ (sym c.is_back.ensures ∙ c.if-is_back.false)) c.if-a.true (λ y hv i hb. send-faults frame z.most (point_of c.args.p) y c.args.buf.now c.send_ask-a.new.buf i hb e (drop c.send_ask-a.result.pos c.args.rec.now) c.send_ask-a.new.log c.send_ask-a.result.len c.args.s.now c.send_ask-a.result.value hv)); held = c.requires.s_value; kept = record { kept = c.send_ask-a.ensures.kept.kept; session = c.send_ask-a.ensures.kept.session c.args.s.now; buf = c.send_ask-a.ensures.kept.buf }; grew = λ t. absurd (true≢false (sym t ∙ c.over-then-a.ensures.0)) }

pub shape_of-log : goal.shape_of-log
shape_of-log c = omega (arith)

pub returns : goal.returns
unfolding call_tree call_op
returns c = let n = law.not_back _ (sym c.is_back.ensures ∙ c.if-is_back.false) in record { on = λ frame z e. let q = CallPoint.Send (point_of c.args.p) in valued-turns frame (send_op (point_of c.args.p)) c.send_ask-a.result c.send_ask-a.ensures.asks e (secret_at (to.args_in frame) q) (λ y. Kc (to.args_in frame) q y (turning.world_in c.args.s.now c.args.buf.now)) c.send_now.result c.send_answer-n.new.s c.send_answer-n.new.buf n c.if-a.false (λ y hv i hb. turns-by frame e c.args.rec.now c.send_ask-a.new.log c.send_answer-n.new.s c.send_answer-n.new.buf c.send_now.result (send-steps frame z.most (point_of c.args.p) y c.args.buf.now c.send_ask-a.new.buf i hb e (drop c.send_ask-a.result.pos c.args.rec.now) c.send_ask-a.new.log c.send_ask-a.result.len c.send_ask-a.result.value hv (rw (c.out_of.ensures, z.whole) at c.send_answer-n.ensures)) (c.send_now.ensures.on frame e c.args.rec.now c.send_ask-a.new.log c.send_answer-n.new.s c.send_answer-n.new.buf)); held = c.send_answer-n.ensures.held.known; kept = record { kept = c.send_answer-n.ensures.kept; session = c.send_answer-n.ensures.session ∙ c.send_ask-a.ensures.kept.session c.args.s.now; buf = c.send_answer-n.ensures.buf ∙ c.send_ask-a.ensures.kept.buf }; grew = λ t. let g = law.asked-grew c.send_ask-a.ensures.asks n in let l = c.send_now.ensures.grew t in (omega (arith, g.0, l), omega (arith, g.1, l)) }
