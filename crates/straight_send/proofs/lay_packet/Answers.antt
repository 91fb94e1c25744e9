use Prim.Native.Nat.{◌+◌}
use lib.ListN.{length}
use Rattle.straight_send.proofs.Laws.{packet-laid}
use Rattle.straight_send.proofs.lay_packet.Goals as goal

pub returns : goal.returns
returns c = packet-laid c.args.buf.now c.args.interface (18 + length c.args.frame.now) c.args.seq c.args.frame.now (rw c.put_header.ensures at c.put_data.ensures)
