use Rattle.plans.specs.Plans.{put_by}
use Rattle.exchanging.proofs.begin.lay_by.Goals as goal

pub returns-in-Whole-clause-laid : goal.returns-in-Whole-clause-laid
unfolding put_by
returns-in-Whole-clause-laid c = rw c.in-Whole.is c.lay_whole.ensures.laid

pub returns-in-Numbered-clause-laid : goal.returns-in-Numbered-clause-laid
unfolding put_by
returns-in-Numbered-clause-laid c = rw c.in-Numbered.is c.lay_numbered.ensures.laid

pub returns-in-Joined-clause-laid : goal.returns-in-Joined-clause-laid
unfolding put_by
returns-in-Joined-clause-laid c = rw c.in-Joined.is c.lay_whole-in-Joined.ensures.laid
