use mathlib.Core.Path.{sym, ◌∙◌}
use Rattle.device.specs.Poll.{arrived_step}
use Rattle.device.specs.Meaning.{arrival_of}
use Rattle.receive.proofs.Laws.{processed}
use Rattle.receive.proofs.arrived.Goals as goal

pub returns-then-blank : goal.returns-then-blank
unfolding arrived_step arrival_of
returns-then-blank c = simp (sym c.blank.ensures ∙ c.if-blank.true) c.unmarked.ensures

pub returns : goal.returns
unfolding arrived_step arrival_of
returns c = simp (sym c.blank.ensures ∙ c.if-blank.false) (processed c.sdpcm_process_rx_packet-rx.result _ c.put_sdpcm.ensures c.received.ensures (rw (c.set_mark.ensures, c.sdpcm_at.ensures) at c.sdpcm_process_rx_packet-rx.ensures))
