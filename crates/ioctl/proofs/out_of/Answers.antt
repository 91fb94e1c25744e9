use borrow.Author.Rules.{rules}
use Rattle.ioctl.specs.Ioctl.{out_of}
use Rattle.ioctl.proofs.out_of.Goals as goal

pub returns : goal.returns
unfolding out_of
returns c = search rules
