use Rattle.sending.proofs.Laws.{covered}
use borrow.Author.Rules.{rules}
use Rattle.sending.proofs.lay_header.Goals as goal

pub returns : goal.returns
returns c = record { laid = c.put_header.ensures; kept = covered c.args.size c.args.seq c.args.channel c.keep.ensures.0 c.keep.ensures.1 c.keep.ensures.2 c.keep.ensures.3 (search rules) (search rules) c.put_header.ensures }
