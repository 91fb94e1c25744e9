use Rattle.jobs.specs.Jobs.{call_of}
use Rattle.cyw43_c.proofs.joins.cyw43_leave.Goals as goal

pub returns : goal.returns
unfolding call_of
returns c = c.plain_entered.ensures
