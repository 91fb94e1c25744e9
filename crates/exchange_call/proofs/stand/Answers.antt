use mathlib.Core.Path.{◌≡◌, refl, ap, sym, subst, ◌∙◌}
use mathlib.Core.Bool.{true≢false}
use lib.ListN.{drop}
use Rattle.effects.specs.Args.{args_of}
use Rattle.control.specs.declared.CallNext.{CallNext}
use Rattle.control.specs.declared.CallPoint.{CallPoint}
use Rattle.control.specs.Meaning.{call_tree}
use Rattle.going.specs.Onward.{go}
use Rattle.turning.specs.Turning as turning
use Rattle.reply_points.specs.ReplyPoints as reply
use Rattle.exchanging.specs.declared.now.CallKind.{CallKind}
use Rattle.exchanging.specs.declared.now.CallNow.{CallNow}
use Rattle.exchanging.specs.Exchanging.{next_by}
use Rattle.exchange_call.specs.ExchangeCall as to
use Rattle.exchange_call.proofs.Laws.{over-turns, gives-ends, stops, asks}
use Rattle.exchange_call.proofs.stand.Goals as goal

at_exchange : (n : CallNow) → next_by CallKind.Exchange n ≡ CallNext.Ask (CallPoint.Exchange n.stage (reply.point_of n.at))
unfolding next_by
at_exchange n = refl

at_ended : (n : CallNow) → next_by CallKind.Ended n ≡ CallNext.Ended n.ending
unfolding next_by
at_ended n = refl

at_refused : (n : CallNow) → next_by CallKind.Refused n ≡ CallNext.Refused n.error
unfolding next_by
at_refused n = refl

pub returns-in-Exchange : goal.returns-in-Exchange
returns-in-Exchange c = record { on = λ first second m w e. subst (λ (z : CallNext). to.Turns (args_of c.args.j first second) e (go e (drop c.args.pos c.args.rec.now) c.args.log.now c.args.len (call_tree (args_of c.args.j first second) z (turning.world_in c.args.s.now c.args.buf.now))) c.args.rec.now c.exchange_turn.result c.exchange_turn.new.log c.exchange_turn.new.s c.exchange_turn.new.buf) (sym (ap (λ (k : CallKind). next_by k c.args.n) c.in-Exchange.is ∙ at_exchange c.args.n)) (c.exchange_turn.ensures.on first second m w e); held = c.exchange_turn.ensures.held; kept = c.exchange_turn.ensures.kept; grew = c.exchange_turn.ensures.grew }

pub returns-in-Ended : goal.returns-in-Ended
returns-in-Ended c = record { on = λ first second m w e. let a = args_of c.args.j first second in subst (λ (z : CallNext). to.Turns (args_of c.args.j first second) e (go e (drop c.args.pos c.args.rec.now) c.args.log.now c.args.len (call_tree (args_of c.args.j first second) z (turning.world_in c.args.s.now c.args.buf.now))) c.args.rec.now c.over.result c.args.log.now c.args.s.now c.args.buf.now) (sym (ap (λ (k : CallKind). next_by k c.args.n) c.in-Ended.is ∙ at_ended c.args.n)) (over-turns a e _ c.args.rec.now c.args.log.now c.args.s.now c.args.buf.now _ c.over.ensures.0 (c.over.ensures.1 ∙ c.ending_end.ensures.0) (gives-ends a e (drop c.args.pos c.args.rec.now) c.args.log.now c.args.s.now c.args.buf.now c.args.len c.args.n.ending c.ending_end.ensures.1)); held = c.requires.s_value; kept = record { kept = c.requires.kept_2; session = refl; buf = refl }; grew = λ t. absurd (true≢false (sym t ∙ c.over.ensures.0)) }

pub returns-in-Refused : goal.returns-in-Refused
returns-in-Refused c = record { on = λ first second m w e. let a = args_of c.args.j first second in subst (λ (z : CallNext). to.Turns (args_of c.args.j first second) e (go e (drop c.args.pos c.args.rec.now) c.args.log.now c.args.len (call_tree (args_of c.args.j first second) z (turning.world_in c.args.s.now c.args.buf.now))) c.args.rec.now c.over-in-Refused.result c.args.log.now c.args.s.now c.args.buf.now) (sym (ap (λ (k : CallKind). next_by k c.args.n) c.in-Refused.is ∙ at_refused c.args.n)) (over-turns a e _ c.args.rec.now c.args.log.now c.args.s.now c.args.buf.now _ c.over-in-Refused.ensures.0 (c.over-in-Refused.ensures.1 ∙ c.error_end.ensures.0) (stops a e (drop c.args.pos c.args.rec.now) c.args.log.now c.args.s.now c.args.buf.now c.args.len c.args.n.error c.error_end.ensures.1)); held = c.requires.s_value; kept = record { kept = c.requires.kept_2; session = refl; buf = refl }; grew = λ t. absurd (true≢false (sym t ∙ c.over-in-Refused.ensures.0)) }

pub returns-in_default : goal.returns-in_default
returns-in_default c = record { on = λ first second m w e. subst (λ (z : CallNext). to.Turns (args_of c.args.j first second) e (go e (drop c.args.pos c.args.rec.now) c.args.log.now c.args.len (call_tree (args_of c.args.j first second) z (turning.world_in c.args.s.now c.args.buf.now))) c.args.rec.now c.wait_turn.result c.wait_turn.new.log c.args.s.now c.args.buf.now) (sym (asks c.args.n c.args.n.kind c.in_default.not-Exchange c.in_default.not-Ended c.in_default.not-Refused)) (c.wait_turn.ensures.on (args_of c.args.j first second) e c.args.s.now c.args.buf.now m); held = c.requires.s_value; kept = record { kept = c.requires.kept_2; session = refl; buf = refl }; grew = c.wait_turn.ensures.grew }
