use Rattle.jobs.specs.Jobs.{call_of}
use Rattle.cyw43_c.proofs.settings.cyw43_variable.Goals as goal

pub returns : goal.returns
unfolding call_of
returns c = c.exchange_entered.ensures
