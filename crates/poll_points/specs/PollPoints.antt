-- The code's flat values in the mirror's terms, and what a step of a poll leaves in a session's bytes.
use Rattle.std.specs.Prelude.{ℕ, ◌≡◌, List, ℤ}
use Rattle.wlan.specs.declared.DriverError.{DriverError}
use Rattle.wlan.specs.declared.Interface.{Interface}
use Rattle.wlan.specs.declared.SdpcmPacket.{SdpcmPacket}
use Rattle.device.specs.declared.PollNext.{PollNext}
use Rattle.device.specs.declared.PollPoint.{PollPoint}
use Rattle.device.specs.declared.PollStep.{PollStep}
use Rattle.places.specs.Places.{Holds, sdpcm_put}
use Rattle.poll_points.specs.declared.PollAt.{PollAt}
use Rattle.poll_points.specs.declared.PollKind.{PollKind}
use Rattle.poll_points.specs.declared.Polled.{Polled}
use Rattle.poll_points.specs.declared.PolledKind.{PolledKind}

unfoldable pub point_by : PollKind → ℕ → PollPoint
point_by PollKind.Interrupt n = PollPoint.Interrupt
point_by PollKind.Acknowledge n = PollPoint.Acknowledge n
point_by PollKind.Status n = PollPoint.Status n
point_by PollKind.Waited n = PollPoint.Waited n
point_by PollKind.FrameControl n = PollPoint.FrameControl
point_by PollKind.Packet n = PollPoint.Packet n

abbrev pub point_of : PollAt → PollPoint
point_of p = point_by p.kind p.n

unfoldable pub next_by : PolledKind → Polled → PollNext
next_by PolledKind.Ask r = PollNext.Ask (point_of r.at)
next_by PolledKind.None r = PollNext.Got SdpcmPacket.None
next_by PolledKind.Control r = PollNext.Got (SdpcmPacket.Control r.offset r.len r.status)
next_by PolledKind.AsyncEvent r = PollNext.Got (SdpcmPacket.AsyncEvent r.offset r.len)
next_by PolledKind.Data r = PollNext.Got (SdpcmPacket.Data r.offset r.len r.interface)
next_by PolledKind.HeaderBeyond r = PollNext.Refused DriverError.EventHeader

abbrev pub next_of : Polled → PollNext
next_of r = next_by r.kind r

abbrev pub came_by : PolledKind → ℕ → ℕ → ℤ → Interface → Polled
came_by kind offset len status interface =
    record { kind = kind; at = record { kind = PollKind.Interrupt; n = 0 }; offset = offset; len = len; status = status; interface = interface }

-- b and d: the session's bytes before and after
pub record Polls (b d : List ℕ) (r : Polled) (s : PollStep) : Type 0 where
  pub next : next_of r ≡ s.next
  pub held : Holds d (sdpcm_put b s.sdpcm)
