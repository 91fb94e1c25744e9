use Rattle.sdpcm.proofs.Laws.{data-part-is}
use Rattle.sdpcm.proofs.header.put_data.Goals as goal

pub returns : goal.returns
returns c = data-part-is _ _ _ _ _ c.copy_over.ensures c.copy_over-2.ensures
