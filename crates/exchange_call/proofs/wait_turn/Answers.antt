use mathlib.Core.Path.{sym, ◌∙◌}
use mathlib.Core.Bool.{true≢false}
use mathlib.Core.List.{[]}
use native.Mathlib.Omega.{arith}
use Rattle.control.specs.Meaning.{lens_of}
use Rattle.session_bytes.specs.Session.{session_in}
use Rattle.turning.proofs.Laws.{asked-grew, not_back}
use Rattle.exchange_call.specs.ExchangeCall.{point_by}
use Rattle.exchange_call.proofs.Laws.{back-turns, told-turns}
use Rattle.exchange_call.proofs.wait_turn.Goals as goal

pub returns-then-is_back : goal.returns-then-is_back
returns-then-is_back c = let i = sym c.is_back.ensures ∙ c.if-is_back.true in record { on = λ x e b buf m. back-turns x m (point_by c.args.k c.args.p c.args.ns) c.ask_at-a.result (c.ask_at-a.ensures buf) e b c.over.result c.back_end.result c.over.ensures.0 c.over.ensures.1 (λ on. c.back_end.ensures e on _ b buf i); grew = λ t. absurd (true≢false (sym t ∙ c.over.ensures.0)) }

pub returns : goal.returns
returns c = let i = sym c.is_back.ensures ∙ c.if-is_back.false in let g = asked-grew (c.ask_at-a.ensures []) (not_back _ i) in let l = c.onward.ensures.3 in record { on = λ x e b buf m. told-turns x m (point_by c.args.k c.args.p c.args.ns) c.ask_at-a.result (c.ask_at-a.ensures buf) e b c.onward.result i c.answer_plan.result (c.onward.ensures.0, c.onward.ensures.1, c.onward.ensures.2, c.onward.ensures.3) (λ f n z. c.answer_plan.ensures.faulted f n c.args.ns x.job (lens_of x) (session_in b).st z) (λ f z. c.answer_plan.ensures.told f c.args.ns x.job (lens_of x) (session_in b).st z); grew = λ t. (omega (arith, g.0, l), omega (arith, g.1, l)) }
