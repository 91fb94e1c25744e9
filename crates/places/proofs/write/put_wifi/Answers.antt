use Rattle.places.proofs.Laws.{wifi-put}
use Rattle.places.proofs.write.put_wifi.Goals as goal

pub returns : goal.returns
returns c = wifi-put c.args.s.now c.requires c.args.x (rw (← c.state_number.ensures) c.put_whole.ensures)
