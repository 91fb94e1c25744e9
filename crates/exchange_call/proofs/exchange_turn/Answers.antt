use mathlib.Core.Path.{sym, ap, ◌∙◌}
use mathlib.Core.Bool.{true≢false}
use native.Mathlib.Omega.{arith}
use Rattle.control.specs.declared.Lens.{Lens}
use Rattle.control.specs.Stages.{request_at, request_len}
use Rattle.effects.specs.Args.{args_of}
use Rattle.ioctl_call.specs.IoctlCall.{Fits, asked_at}
use Rattle.ioctl_call.proofs.Laws.{stood_back, stood_on, is-over}
use Rattle.exchange_call.proofs.Laws.{planned-on, on-turns, over-turns}
use Rattle.exchange_call.proofs.exchange_turn.Goals as goal

pub returns-then-is_back : goal.returns-then-is_back
returns-then-is_back c = let i = sym c.is_back.ensures ∙ c.if-is_back.true in record { on = λ first second m w e. let a = args_of c.args.j first second in let f : Fits a c.args.g c.stage_len.result = record { modest = m; len = c.stage_len.ensures ∙ ap (λ (z : Lens). request_len (request_at c.args.j c.args.g) z) w } in let x = asked_at a c.args.g e c.args.rec.now c.args.log.now c.args.pos c.args.len c.args.p c.args.s.now c.args.buf.now in over-turns a e x c.args.rec.now c.ioctl_run-t.new.log c.ioctl_run-t.new.s c.ioctl_run-t.new.buf c.over.result c.over.ensures.0 c.over.ensures.1 (rw (stood_back a c.args.g e x c.args.rec.now c.ioctl_run-t.result c.ioctl_run-t.new.log c.ioctl_run-t.new.s c.ioctl_run-t.new.buf i (c.ioctl_run-t.ensures.on a c.args.g f e)) at (c.back_end.ensures e x c.ioctl_run-t.new.log c.ioctl_run-t.new.s c.ioctl_run-t.new.buf i)); held = c.ioctl_run-t.ensures.held; kept = c.ioctl_run-t.ensures.kept; grew = λ t. absurd (true≢false (sym t ∙ c.over.ensures.0)) }

pub exchange_plan-requires : goal.exchange_plan-requires
exchange_plan-requires c = record { kept_2 = c.ioctl_run-t.ensures.kept.kept }

pub shape_of-log : goal.shape_of-log
shape_of-log c = omega (arith)

pub returns : goal.returns
returns c = let i = sym c.is_back.ensures ∙ c.if-is_back.false in let k = c.ioctl_run-t.ensures.kept in let o = c.exchange_plan.ensures.kept in let q = c.ioctl_run-t.ensures.grew i in let n = c.onward.ensures.3 in record { on = λ first second m w e. let a = args_of c.args.j first second in let f : Fits a c.args.g c.stage_len.result = record { modest = m; len = c.stage_len.ensures ∙ ap (λ (z : Lens). request_len (request_at c.args.j c.args.g) z) w } in let x = asked_at a c.args.g e c.args.rec.now c.args.log.now c.args.pos c.args.len c.args.p c.args.s.now c.args.buf.now in on-turns a e x c.args.rec.now c.ioctl_run-t.new.log c.ioctl_run-t.new.s c.exchange_plan.new.buf c.onward.result c.exchange_plan.result c.ioctl_run-t.result.asked.pos c.ioctl_run-t.result.asked.len c.onward.ensures.0 c.onward.ensures.1 c.onward.ensures.2 c.onward.ensures.3 (planned-on {x = x} c.ioctl_run-t.result.now c.exchange_plan.new.buf c.exchange_plan.result (stood_on a c.args.g e x c.args.rec.now c.ioctl_run-t.result c.ioctl_run-t.new.log c.ioctl_run-t.new.s c.ioctl_run-t.new.buf i (c.ioctl_run-t.ensures.on a c.args.g f e)) (λ l s h z. c.exchange_plan.ensures.on l s h z (is-over c.ioctl_run-t.result (sym c.ioctl_run-t.ensures.asks.1 ∙ c.ioctl_run-t.ensures.asks.0) i)) c.exchange_plan.ensures.laid); held = c.ioctl_run-t.ensures.held; kept = record { kept = o.kept; session = o.session c.ioctl_run-t.new.s ∙ k.session; buf = o.buf ∙ k.buf }; grew = λ t. (omega (arith, q.0, n), omega (arith, q.1, n)) }
