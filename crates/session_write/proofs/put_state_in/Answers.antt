use Rattle.session_write.proofs.Laws.{parts-put}
use Rattle.session_write.proofs.put_state_in.Goals as goal

pub returns : goal.returns
returns c = let whole = parts-put c.args.out.now c.args.st c.put_sdpcm.ensures c.put_marks.ensures c.put_reply.ensures c.put_frame.ensures c.put_link.ensures in record { put = whole.0; back = whole.1 }
