use Rattle.session_read.proofs.Laws.{bssid-at}
use Rattle.session_read.proofs.bssid_in.Goals as goal

pub returns : goal.returns
returns c = bssid-at c.args.p.now c.requires
