use Rattle.exchanging.proofs.Laws.{begun}
use Rattle.exchanging.proofs.begin.begin_laid.Goals as goal

pub returns : goal.returns
returns c = λ a h before put c₀ e. begun _ c.args.g h before put e c.ioctl_start-n.ensures (c.begun.ensures h before put)
