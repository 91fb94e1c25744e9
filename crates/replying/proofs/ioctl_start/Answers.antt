use Rattle.replying.proofs.Laws.{numbered}
use Rattle.replying.proofs.ioctl_start.Goals as goal

pub returns : goal.returns
returns c = numbered c.args.len c.requires.kept c.requires.s_value c.number.ensures c.sending_start.ensures
