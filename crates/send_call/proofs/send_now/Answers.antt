use mathlib.Core.Path.{◌≡◌, refl, ap, sym, subst, ◌∙◌}
use mathlib.Core.Bool.{true≢false}
use lib.ListN.{drop}
use Rattle.control.specs.Meaning.{call_tree}
use Rattle.control.specs.declared.CallNext.{CallNext}
use Rattle.control.specs.declared.Ending.{Ending}
use Rattle.turning.proofs.Laws as law
use Rattle.going.specs.Onward.{go}
use Rattle.turning.specs.Turning as turning
use Rattle.send_call.specs.SendCall as to
use Rattle.send_call.specs.SendCall.{call_by, asks_at}
use Rattle.send_points.specs.declared.SentKind.{SentKind}
use Rattle.send_points.specs.declared.SendNow.{SendNow}
use Rattle.send_call.proofs.Laws.{over-turns, on-turns, sent-ends}
use Rattle.send_call.proofs.send_now.Goals as goal

at_ask : (n : SendNow) → call_by SentKind.Ask n ≡ asks_at n.at
unfolding call_by
at_ask n = refl

at_sent : (n : SendNow) → call_by SentKind.Sent n ≡ CallNext.Ended Ending.Done
unfolding call_by
at_sent n = refl

at_refused : (n : SendNow) → call_by SentKind.Refused n ≡ CallNext.Refused n.error
unfolding call_by
at_refused n = refl

pub returns-in-Ask : goal.returns-in-Ask
returns-in-Ask c = record { on = λ frame e rec log s buf. subst (λ (z : CallNext). to.Turns frame e (go e (drop c.args.pos rec) log c.args.len (call_tree (to.args_in frame) z (turning.world_in s buf))) rec c.onward.result log s buf) (sym (ap (λ (k : SentKind). call_by k c.args.n) c.in-Ask.is ∙ at_ask c.args.n)) (on-turns frame e rec log s buf _ c.args.n.at c.args.pos c.args.len c.onward.ensures.0 c.onward.ensures.1 c.onward.ensures.2 c.onward.ensures.3); grew = λ t. c.onward.ensures.3 }

pub returns-in-Sent : goal.returns-in-Sent
returns-in-Sent c = record { on = λ frame e rec log s buf. subst (λ (z : CallNext). to.Turns frame e (go e (drop c.args.pos rec) log c.args.len (call_tree (to.args_in frame) z (turning.world_in s buf))) rec c.over.result log s buf) (sym (ap (λ (k : SentKind). call_by k c.args.n) c.in-Sent.is ∙ at_sent c.args.n)) (over-turns frame e _ rec log s buf _ c.over.ensures.0 (c.over.ensures.1 ∙ c.done_end.ensures) (sent-ends frame e (drop c.args.pos rec) log s buf c.args.len)); grew = λ t. absurd (true≢false (sym t ∙ c.over.ensures.0)) }

pub returns-in-Refused : goal.returns-in-Refused
unfolding call_tree
returns-in-Refused c = record { on = λ frame e rec log s buf. subst (λ (z : CallNext). to.Turns frame e (go e (drop c.args.pos rec) log c.args.len (call_tree (to.args_in frame) z (turning.world_in s buf))) rec c.over-in-Refused.result log s buf) (sym (ap (λ (k : SentKind). call_by k c.args.n) c.in-Refused.is ∙ at_refused c.args.n)) (over-turns frame e _ rec log s buf _ c.over-in-Refused.ensures.0 (c.over-in-Refused.ensures.1 ∙ c.error_end.ensures.0) (law.stopped e c.args.n.error (drop c.args.pos rec) log s buf c.args.len c.error_end.ensures.1)); grew = λ t. absurd (true≢false (sym t ∙ c.over-in-Refused.ensures.0)) }
