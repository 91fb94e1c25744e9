use Rattle.places.proofs.Laws.{mark-is, marks-put}
use Rattle.places.proofs.write.put_marks.Goals as goal

pub returns : goal.returns
returns c = marks-put c.args.s.now c.requires c.args.x (rw (c.from.ensures, c.from-2.ensures, mark-is c.args.x.scan_done, mark-is c.args.x.scan_in_progress) at c.put_whole.ensures)
