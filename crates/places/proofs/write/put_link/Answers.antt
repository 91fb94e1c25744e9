use Rattle.places.proofs.Laws.{link-put}
use Rattle.places.proofs.write.put_link.Goals as goal

pub returns : goal.returns
returns c = link-put c.args.s.now c.args.x c.put_wifi.ensures c.put_auth.ensures c.put_failure.ensures c.put_tick.ensures
