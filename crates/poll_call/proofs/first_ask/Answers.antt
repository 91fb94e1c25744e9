use Rattle.device.specs.Poll.{poll_op}
use Rattle.polls.specs.Polls.{first_point}
use Rattle.poll_call.proofs.first_ask.Goals as goal

pub returns-then-marked : goal.returns-then-marked
unfolding first_point poll_op
returns-then-marked c = λ b. rw c.if-marked.true (c.ask_status.ensures b)

pub returns : goal.returns
unfolding first_point poll_op
returns c = λ b. rw c.if-marked.false (c.ask_interrupt.ensures b)
