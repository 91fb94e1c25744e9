use Rattle.sdpcm.proofs.Laws.{header_is}
use Rattle.sdpcm.proofs.header.put_header.Goals as goal

pub returns : goal.returns
returns c = header_is _ _ _ _ _ _ _ _ c.header_length.ensures c.put_le16.ensures c.put_le16-2.ensures c.copy_over.ensures
