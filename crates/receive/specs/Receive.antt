-- A poll's step by the work buffer that an answer left.
use Rattle.wlan.specs.declared.Sdpcm.{Sdpcm}
use Rattle.definition.specs.Bus.{Bytes}
use Rattle.rx_payload.specs.declared.PacketKind.{PacketKind}
use Rattle.device.specs.declared.PollPoint.{PollPoint}
use Rattle.device.specs.declared.PollStep.{PollStep}
use Rattle.device.specs.Poll.{poll_op, poll_answer}
use Rattle.device.specs.Meaning.{arrival_at}
use Rattle.poll_points.specs.declared.PolledKind.{PolledKind}
use Rattle.wlan.specs.Results.{BusAnswer}

abbrev pub polled_at : Sdpcm → PollPoint → BusAnswer → Bytes → PollStep
polled_at s p x b = poll_answer s p x (arrival_at (poll_op p) b s)

unfoldable pub polled_kind : PacketKind → PolledKind
polled_kind PacketKind.None = PolledKind.None
polled_kind PacketKind.Control = PolledKind.Control
polled_kind PacketKind.AsyncEvent = PolledKind.AsyncEvent
polled_kind PacketKind.Data = PolledKind.Data
polled_kind PacketKind.HeaderBeyond = PolledKind.HeaderBeyond
