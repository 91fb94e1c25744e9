use mathlib.Core.Path.{sym, ◌∙◌}
use lib.ListN.{length}
use Rattle.definition.specs.Calls.{Call}
use Rattle.entering.proofs.Laws as law
use Rattle.entering.proofs.send_entry.send_entered.Goals as goal

pub returns-in_default : goal.returns-in_default
returns-in_default c = law.entered-none (Call.send_data c.args.interface c.args.frame.now) c.args.session.now c.args.rec.now c.args.log.now c.args.res.now c.args.buf.now (length c.args.undo.now) (law.other-session c.args.session.now c.in_default.ensures.cases)

pub returns-then-not-is_session : goal.returns-then-not-is_session
returns-then-not-is_session c = rw c.in-Some.ensures.cases.same (law.entered-none (Call.send_data c.args.interface c.args.frame.now) c.args.session.now c.args.rec.now c.args.log.now c.args.res.now c.args.buf.now (length c.args.undo.now) (rw c.in-Some.ensures.cases.same at (sym c.is_session.ensures ∙ c.if-not-is_session.true)))

pub returns-in_default-as_mut_array : goal.returns-in_default-as_mut_array
returns-in_default-as_mut_array c = rw c.in-Some.ensures.cases.same (law.entered-other (Call.send_data c.args.interface c.args.frame.now) c.args.session.now c.args.rec.now c.args.log.now c.args.res.now c.args.buf.now (length c.args.undo.now) _ _ (rw c.in-Some.ensures.cases.same at (sym c.is_session.ensures ∙ c.if-not-is_session.false)) c.in_default-as_mut_array.ensures.cases c.other_length.ensures.0 c.other_length.ensures.1)

-- A work buffer of another length is refused with 13;
-- all is as it was, but for the result.
pub returns-in_default-as_mut_array-2 : goal.returns-in_default-as_mut_array-2
returns-in_default-as_mut_array-2 c = rw c.in-Some.ensures.cases.same (law.entered-buffer (Call.send_data c.args.interface c.args.frame.now) c.args.session.now c.args.rec.now c.args.log.now c.args.res.now c.args.buf.now (length c.args.undo.now) _ _ (rw c.in-Some.ensures.cases.same at (sym c.is_session.ensures ∙ c.if-not-is_session.false)) c.in-Some-as_mut_array.ensures.cases.long c.in_default-as_mut_array-2.ensures.cases c.other_length-in_default-as_mut_array-2.ensures.0 c.other_length-in_default-as_mut_array-2.ensures.1)

pub send_here-requires : goal.send_here-requires
send_here-requires c = record { session_value = sym c.is_session.ensures ∙ c.if-not-is_session.false }

pub returns : goal.returns
returns c =
    let h = rw (c.in-Some.ensures.cases.same, c.in-Some-as_mut_array-2.ensures.cases.same) at c.send_here.ensures in
    h ∙ law.entered_here (Call.send_data c.args.interface c.args.frame.now) c.args.session.now c.args.rec.now c.args.log.now c.args.res.now c.args.buf.now (length c.args.undo.now) (rw c.in-Some.ensures.cases.same at (sym c.is_session.ensures ∙ c.if-not-is_session.false)) c.in-Some-as_mut_array.ensures.cases.long
