use Rattle.places_read.proofs.link_at.Goals as goal

pub returns : goal.returns
returns c = rw (c.wifi_at.ensures, c.failure_at.ensures, c.auth_at.ensures, c.tick_at.ensures)
