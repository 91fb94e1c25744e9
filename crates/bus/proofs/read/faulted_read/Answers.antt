use Rattle.slices.proofs.Over.{over-append}
use Rattle.definition.specs.Device as def
use Rattle.bus.proofs.read.faulted_read.Goals as goal

pub returns : goal.returns
unfolding def.faulted
returns c = rw (c.fill_zero.ensures, c.put_le32.ensures, c.from.ensures, c.from-2.ensures) (over-append _ _ _ _)
