use Rattle.replying.proofs.Laws.{after-send}
use Rattle.replying.proofs.stall_answer.Goals as goal

pub returns : goal.returns
returns c = after-send _ _ c.args.len (rw c.out_of.ensures at c.send_answer-n.ensures) c.sending_next.ensures
