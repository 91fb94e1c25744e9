use Rattle.reply_points.proofs.stalls.Goals as goal

pub returns : goal.returns
returns c = rw c.stall_kind.ensures
