use mathlib.Core.Path.{sym, ◌∙◌}
use Rattle.rx.proofs.Laws.{process-not, process-is}
use Rattle.rx.proofs.sdpcm_process_rx_packet.Goals as goal

pub returns-then-is_packet : goal.returns-then-is_packet
returns-then-is_packet c = let a = c.args in process-is a.came a.buf.now a.s _ _ _ _ (sym c.is_packet.ensures ∙ c.if-is_packet.true) c.accepted-next.ensures c.size_in.ensures c.channel_in.ensures c.payload_of-packet.ensures

pub returns : goal.returns
returns c = let a = c.args in process-not a.came a.buf.now a.s _ (sym c.is_packet.ensures ∙ c.if-is_packet.false) c.none.ensures
