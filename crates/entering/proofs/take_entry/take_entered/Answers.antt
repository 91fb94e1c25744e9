use mathlib.Core.Path.{refl, sym, ◌∙◌}
use lib.ListN.{length}
use Rattle.definition.specs.Calls.{Call}
use Rattle.definition.specs.Run.{called}
use Rattle.session_bytes.specs.Session.{session_in}
use Rattle.turning.specs.Turning.{world_in}
use Rattle.entry.proofs.Laws as entry
use Rattle.entering.proofs.Laws.{handed-take, other-session}
use Rattle.entering.proofs.take_entry.take_entered.Goals as goal

pub returns-in_default : goal.returns-in_default
returns-in_default c = λ rec log. entry.entered-none (Call.get_rx_buf (length c.args.out.now)) c.args.session.now rec log c.args.buf.now c.args.out.now c.args.res.now (other-session c.args.session.now c.in_default.ensures.cases)

pub returns-then-not-is_session : goal.returns-then-not-is_session
returns-then-not-is_session c = λ rec log. rw c.in-Some.ensures.cases.same (entry.entered-none (Call.get_rx_buf (length c.args.out.now)) c.args.session.now rec log c.args.buf.now c.args.out.now c.args.res.now (rw c.in-Some.ensures.cases.same at (sym c.is_session.ensures ∙ c.if-not-is_session.true)))

pub run_take-r-requires : goal.run_take-r-requires
run_take-r-requires c = sym c.is_session.ensures ∙ c.if-not-is_session.false

pub returns : goal.returns
returns c =
    let h = rw c.in-Some.ensures.cases.same at c.run_take-r.ensures in
    λ rec log. handed-take (called (Call.get_rx_buf (length c.args.out.now)) (world_in c.args.session.now c.args.buf.now) rec log c.args.out.now) c.run_take-r.result c.args.res.now _ _ _ _ _ _ (h rec log) c.hand.ensures.0 c.hand.ensures.1 ∙ entry.entered-known (Call.get_rx_buf (length c.args.out.now)) c.args.session.now rec log c.args.buf.now c.args.out.now c.args.res.now (session_in c.args.session.now).st _ (rw c.in-Some.ensures.cases.same at (sym c.is_session.ensures ∙ c.if-not-is_session.false)) refl refl
