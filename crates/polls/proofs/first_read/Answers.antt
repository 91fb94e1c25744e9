use Rattle.polls.specs.Polls.{first_point}
use Rattle.polls.proofs.first_read.Goals as goal

pub returns-then-marked : goal.returns-then-marked
unfolding first_point
returns-then-marked c = λ a. rw c.if-marked.true (c.first_status.ensures a)

pub returns : goal.returns
unfolding first_point
returns c = λ a. rw c.if-marked.false (c.first_interrupt.ensures a)
