use mathlib.Core.Path.{ap}
use Rattle.straight_send.proofs.spend.Goals as goal

pub returns : goal.returns
returns c = (ap (λ x. x.packet_tx_seq) c.sdpcm_at-t.ensures, rw c.sdpcm_at-t.ensures at (rw c.next_seq.ensures at c.put_sdpcm.ensures))
