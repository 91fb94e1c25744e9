use Rattle.places.proofs.Laws.{auth-put}
use Rattle.places.proofs.write.put_auth.Goals as goal

pub returns : goal.returns
returns c = auth-put c.args.s.now c.requires c.args.x (rw (← c.auth_number.ensures) c.put_whole.ensures)
