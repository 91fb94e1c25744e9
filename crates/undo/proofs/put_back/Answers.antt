use Rattle.undo.specs.Undo.{back_buf}
use Rattle.undo.proofs.put_back.Goals as goal

pub returns : goal.returns
unfolding back_buf
returns c = (c.put_session.ensures, rw c.kept.ensures at c.copy.ensures)
