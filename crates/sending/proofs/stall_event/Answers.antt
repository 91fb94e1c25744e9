use Rattle.sending.proofs.Laws.{heard}
use Rattle.sending.proofs.stall_event.Goals as goal

pub returns : goal.returns
returns c = λ e g. rw g (heard _ _ _ _ c.handle_async_event.ensures.held c.handle_async_event.ensures.kept c.test.ensures)
