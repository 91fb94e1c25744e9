-- A received packet's flat value in the definition's terms.
use Rattle.wlan.specs.declared.SdpcmPacket.{SdpcmPacket}
use Rattle.rx_payload.specs.declared.Packet.{Packet}
use Rattle.rx_payload.specs.declared.PacketKind.{PacketKind}
use Rattle.std.specs.Prelude.{Ok, Err}
use Rattle.wlan.specs.Results.{Received}
use Rattle.wlan.specs.declared.RxError.{RxError}

unfoldable pub received_by : PacketKind → Packet → Received
received_by PacketKind.None p = Ok SdpcmPacket.None
received_by PacketKind.Control p = Ok (SdpcmPacket.Control p.offset p.len p.status)
received_by PacketKind.AsyncEvent p = Ok (SdpcmPacket.AsyncEvent p.offset p.len)
received_by PacketKind.Data p = Ok (SdpcmPacket.Data p.offset p.len p.interface)
received_by PacketKind.HeaderBeyond p = Err RxError.HeaderBeyond

abbrev pub received_of : Packet → Received
received_of p = received_by p.kind p
