-- A call's beginning, and its step at any point, as the code computes them.
use Rattle.std.specs.Prelude.{ℕ, Bool, true, false, None}
use Rattle.slices.specs.Pick.{pick}
use Rattle.wlan.specs.State.{with_link, set_failure}
use Rattle.wlan.specs.declared.WifiState.{WifiState}
use Rattle.wlan.specs.declared.DriverError.{DriverError}
use Rattle.wlan.specs.declared.State.{State}
use Rattle.device.specs.declared.Arrival.{Arrival}
use Rattle.send.specs.declared.OutPacket.{OutPacket}
use Rattle.send.specs.declared.SendNext.{SendNext}
use Rattle.send.specs.declared.SendStep.{SendStep}
use Rattle.send.specs.Send as send
use Rattle.control.specs.declared.Ending.{Ending}
use Rattle.control.specs.declared.Job.{Job}
use Rattle.control.specs.declared.Lens.{Lens}
use Rattle.control.specs.declared.Stage.{Stage}
use Rattle.control.specs.declared.CallPoint.{CallPoint}
use Rattle.control.specs.declared.Before.{Before}
use Rattle.control.specs.declared.RequestPut.{RequestPut}
use Rattle.control.specs.declared.CallNext.{CallNext}
use Rattle.control.specs.declared.CallStep.{CallStep}
use Rattle.control.specs.Steps.{lays, step, ends, refuses}
use Rattle.control.specs.Exchange.{begins, exchange_answer, pause_answer, clock_answer, tick_answer}
use Rattle.control.specs.Poll.{poll_point, poll_tick}
use Rattle.wlan.specs.Results.{BusAnswer}

abbrev pub exchanges_step : Job → Lens → Stage → State → CallStep
exchanges_step j l g s = begins j l g s false Before.None

unfoldable pub scan_start : Job → Lens → State → CallStep
scan_start j l s = pick s.scan.scan_in_progress (ends s false Before.None Ending.Done) (exchanges_step j l Stage.Escan s)

abbrev pub join_down : Job → Lens → State → CallStep
join_down j l s = exchanges_step j l Stage.JoinBaWsize (with_link s (set_failure s.link None))

unfoldable pub join_by : Job → Lens → State → WifiState → CallStep
join_by j l s WifiState.Down = join_down j l s
join_by j l s WifiState.Connecting = refuses s false Before.None DriverError.Busy
join_by j l s WifiState.Connected = refuses s false Before.None DriverError.Busy
join_by j l s WifiState.Disconnecting = refuses s false Before.None DriverError.Busy

abbrev pub join_start : Job → Lens → State → CallStep
join_start j l s = join_by j l s s.link.state

abbrev pub frame_out : Job → OutPacket
frame_out j = record { channel = 2; size = j.size }

unfoldable pub sending_next : State → Bool → RequestPut → SendNext → CallStep
sending_next s h put (SendNext.Ask p q) = step s h (lays Before.None put p) (CallNext.Ask (CallPoint.Send q))
sending_next s h put SendNext.Sent = step s h (lays Before.None put None) (CallNext.Ended Ending.Done)
sending_next s h put (SendNext.Refused p e) = step s h (lays Before.None put p) (CallNext.Refused e)

unfoldable pub sending_step : SendStep → RequestPut → CallStep
sending_step x put = sending_next x.st x.heard put x.next

abbrev pub frame_start : Job → ℕ → State → CallStep
frame_start j interface s = sending_step (send.start_step s (frame_out j)) (RequestPut.Data interface)

unfoldable pub call_answer : Job → Lens → State → CallPoint → BusAnswer → Arrival → CallStep
call_answer j l s (CallPoint.Exchange g q) x a = exchange_answer j l s g q x a
call_answer j l s (CallPoint.Pause q) x a = pause_answer j l s q
call_answer j l s CallPoint.Clock x a = clock_answer j l s x
call_answer j l s CallPoint.Tick x a = tick_answer s x
call_answer j l s (CallPoint.Poll q) x a = poll_point s q x a
call_answer j l s (CallPoint.PollTick t) x a = poll_tick s t x
call_answer j l s (CallPoint.Send q) x a = sending_step (send.send_answer s (frame_out j) q x a) RequestPut.None
