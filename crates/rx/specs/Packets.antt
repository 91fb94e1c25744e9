-- What the packet reader gives, in the definition's terms.
use Rattle.wlan.specs.declared.RxPacket.{RxPacket}
use Rattle.rx_payload.specs.Packets.{received_of}
use Rattle.rx.specs.declared.Processed.{Processed}

abbrev pub rx_of : Processed → RxPacket
rx_of r = record { sdpcm = r.sdpcm; received = received_of r.packet }
