use Rattle.send.specs.Meaning.{laid_header}
use Rattle.sending.proofs.Laws.{spent}
use Rattle.sending.proofs.emit_header.Goals as goal

pub returns : goal.returns
unfolding laid_header
returns c = spent c.requires.kept c.requires.s_value (rw (c.next_seq-spent.ensures, c.sdpcm_at-t.ensures) at c.put_sdpcm.ensures) (rw c.sdpcm_at-t.ensures at c.lay_header.ensures.laid) c.lay_header.ensures.kept
