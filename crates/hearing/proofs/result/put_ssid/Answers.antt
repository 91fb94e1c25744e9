use Rattle.hearing.proofs.Brought.{ssid-put}
use Rattle.hearing.proofs.result.put_ssid.Goals as goal

pub returns : goal.returns
returns c = ssid-put c.args.s.now c.args.e.now c.args.at c.args.n c.requires.e_len c.requires.n_bound c.put_whole.ensures c.fill_zero.ensures
