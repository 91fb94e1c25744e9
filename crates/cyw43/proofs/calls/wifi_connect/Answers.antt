use Rattle.jobs.specs.Jobs.{call_of}
use Rattle.cyw43.proofs.calls.wifi_connect.Goals as goal

pub returns : goal.returns
unfolding call_of
returns c = c.exchanges.ensures
