use Rattle.places.proofs.Laws.{mark-is, sdpcm-put}
use Rattle.places.proofs.write.put_sdpcm.Goals as goal

pub returns : goal.returns
returns c = sdpcm-put c.args.s.now c.requires c.args.x (rw (c.from.ensures, mark-is) at c.put_whole.ensures)
