use Rattle.exchanging.specs.Exchanging.{next_by}
use Rattle.exchanging.proofs.now.end.Goals as goal

pub returns : goal.returns
unfolding next_by
returns c = rw (c.now_at.ensures.0, c.now_at.ensures.3)
