use Rattle.replying.proofs.number.Goals as goal

pub returns : goal.returns
returns c = rw (c.next_id.ensures, c.sdpcm_at.ensures) at c.put_sdpcm.ensures
