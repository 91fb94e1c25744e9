use Rattle.jobs.specs.Jobs.{call_of}
use Rattle.cyw43.proofs.ioctls.set_ioctl.Goals as goal

pub returns : goal.returns
unfolding call_of
returns c = c.plain.ensures
