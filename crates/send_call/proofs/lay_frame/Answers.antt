use Rattle.send_call.proofs.Laws.{frame-covered}
use borrow.Author.Rules.{rules}
use Rattle.send_call.proofs.lay_frame.Goals as goal

pub returns : goal.returns
returns c = record { laid = c.put_data.ensures; kept = frame-covered c.args.interface c.args.frame.now c.requires.frame_len_bound c.keep.ensures.0 c.keep.ensures.1 c.keep.ensures.2 c.keep.ensures.3 (search rules) (search rules) c.put_data.ensures }
