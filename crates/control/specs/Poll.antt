-- `poll`, as the code computes it.
use Rattle.std.specs.Prelude.{ℕ, Bool, true, false, ltb, leb, Option, Some, None, Ok, Err}
use Rattle.slices.specs.Pick.{pick}
use Rattle.wlan.specs.State.{with_sdpcm, with_pending, with_link, set_frame, set_failure}
use Rattle.wlan.specs.declared.WifiState.{WifiState}
use Rattle.wlan.specs.declared.DriverError.{DriverError}
use Rattle.wlan.specs.declared.WlanPollResult.{WlanPollResult}
use Rattle.wlan.specs.declared.AsyncEvent.{AsyncEvent}
use Rattle.wlan.specs.declared.SdpcmPacket.{SdpcmPacket}
use Rattle.wlan.specs.declared.State.{State}
use Rattle.definition.specs.Event.{released}
use Rattle.definition.specs.Send.{elapsed}
use Rattle.handling.specs.Handle.{handled_of}
use Rattle.device.specs.declared.Arrival.{Arrival}
use Rattle.device.specs.declared.PollNext.{PollNext}
use Rattle.device.specs.declared.PollPoint.{PollPoint}
use Rattle.device.specs.Poll.{poll_start, poll_answer}
use Rattle.send.specs.Send.{stored}
use Rattle.control.specs.declared.Ending.{Ending}
use Rattle.control.specs.declared.CallPoint.{CallPoint}
use Rattle.control.specs.declared.Before.{Before}
use Rattle.control.specs.declared.CallStep.{CallStep}
use Rattle.control.specs.Steps.{asks, ends, refuses}
use Rattle.wlan.specs.declared.WifiConnectFailure.{WifiConnectFailure}
use Rattle.wlan.specs.Results.{BusAnswer}

unfoldable pub polling_step : State → Bool → CallStep
polling_step s h = asks s h Before.None (CallPoint.Poll (poll_start s.sdpcm))

abbrev pub polled_step : State → WlanPollResult → CallStep
polled_step s p = ends s false Before.None (Ending.Polled p)

unfoldable pub down_report : State → Option WifiConnectFailure → CallStep
down_report s None = polled_step s WlanPollResult.None
down_report s (Some f) = polled_step (with_link s (set_failure s.link None)) (WlanPollResult.ConnectFailed f)

unfoldable pub report_by : State → WifiState → CallStep
report_by s WifiState.Down = down_report s s.link.connect_failure
report_by s WifiState.Connecting = polled_step s WlanPollResult.None
report_by s WifiState.Connected = polled_step s WlanPollResult.None
report_by s WifiState.Disconnecting = polled_step s WlanPollResult.None

abbrev pub report_step : State → CallStep
report_step s = report_by s s.link.state

unfoldable pub tick_step : State → Option ℕ → CallStep
tick_step s None = report_step s
tick_step s (Some n) = asks s false Before.None (CallPoint.PollTick n)

unfoldable pub nothing_by : State → WifiState → CallStep
nothing_by s WifiState.Down = report_step s
nothing_by s WifiState.Connecting = report_step s
nothing_by s WifiState.Connected = report_step s
nothing_by s WifiState.Disconnecting = tick_step s s.link.disconnect_started_tick

abbrev pub nothing_step : State → CallStep
nothing_step s = nothing_by s s.link.state

abbrev pub held : State → ℕ → ℕ → State
held s offset len = with_pending s (set_frame s.pending (Some (record { offset = offset; len = len })))

unfoldable pub frame_step : State → ℕ → ℕ → CallStep
frame_step s offset len = pick (ltb len 14) (polling_step s false) (polled_step (held s offset len) WlanPollResult.Rx)

unfoldable pub packet_step : State → AsyncEvent → SdpcmPacket → CallStep
packet_step s e SdpcmPacket.None = nothing_step s
packet_step s e (SdpcmPacket.Control offset len status) = polling_step (stored s offset len status) false
packet_step s e (SdpcmPacket.AsyncEvent offset len) = polling_step (handled_of s len e).st (handled_of s len e).heard
packet_step s e (SdpcmPacket.Data offset len interface) = frame_step s offset len

unfoldable pub next_step : State → AsyncEvent → PollNext → CallStep
next_step s e (PollNext.Ask q) = asks s false Before.None (CallPoint.Poll q)
next_step s e (PollNext.Got p) = packet_step s e p
next_step s e (PollNext.Refused x) = refuses s false Before.None x

unfoldable pub poll_point : State → PollPoint → BusAnswer → Arrival → CallStep
poll_point s q x a = next_step (with_sdpcm s (poll_answer s.sdpcm q x a).sdpcm) a.event (poll_answer s.sdpcm q x a).next

unfoldable pub timed_out_state : State → ℕ → ℕ → State
timed_out_state s started tick = pick (leb 1000 (elapsed started tick)) (with_link s (released s.link)) s

unfoldable pub poll_tick : State → ℕ → BusAnswer → CallStep
poll_tick s started (Ok t) = report_step (timed_out_state s started t)
poll_tick s started (Err f) = refuses s false Before.None (DriverError.Fault f.place)
