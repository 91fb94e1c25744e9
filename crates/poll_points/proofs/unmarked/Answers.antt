use Rattle.poll_points.proofs.unmarked.Goals as goal

pub returns : goal.returns
returns c = record { next = c.none.ensures; held = rw (c.set_mark.ensures, c.sdpcm_at.ensures) at c.put_sdpcm.ensures }
