-- Where a poll stands after a step.
use Prim.Native.Nat.{ℕ}
use mathlib.Core.Path.{◌≡◌, refl}
use mathlib.Core.List.{List}
use Rattle.wlan.specs.declared.DriverError.{DriverError}
use Rattle.wlan.specs.declared.State.{State}
use Rattle.wlan.specs.declared.WifiState.{WifiState}
use Rattle.control.specs.declared.CallNext.{CallNext}
use Rattle.control.specs.declared.CallPoint.{CallPoint}
use Rattle.control.specs.declared.CallStep.{CallStep}
use Rattle.control.specs.Poll.{tick_step, nothing_by}
use Rattle.poll_points.specs.PollPoints.{point_of}
use Rattle.poll_points.specs.declared.PollAt.{PollAt}
use Rattle.run_end.specs.declared.PollReport.{PollReport}
use Rattle.poll_report.specs.PollReport.{Gives, Reports}
use Rattle.poll_now.specs.declared.NowKind.{NowKind}
use Rattle.poll_now.specs.declared.PollNow.{PollNow}
use Rattle.poll_now.specs.PollNow.{NextBy, NextIs, Quiets, disconnect_tick}

pub asked : (r : PollNow) {p : PollAt} → r.kind ≡ NowKind.Ask → r.at ≡ p → NextIs r (CallNext.Ask (CallPoint.Poll (point_of p)))
unfolding NextBy
asked r k a = rw (k, a) refl

pub ticked : (r : PollNow) {t : ℕ} → r.kind ≡ NowKind.Tick → r.started ≡ t → NextIs r (CallNext.Ask (CallPoint.PollTick t))
unfolding NextBy
ticked r k e = rw (k, e) refl

pub ended : (r : PollNow) {v : PollReport} (n : CallNext) → r.kind ≡ NowKind.Over → r.report ≡ v → Gives n v → NextIs r n
unfolding NextBy
ended r n k e g = rw (k, e) g

pub beyond : (r : PollNow) → r.kind ≡ NowKind.HeaderBeyond → NextIs r (CallNext.Refused DriverError.EventHeader)
unfolding NextBy
beyond r k = rw k refl

-- the poll's report, as where it stands
pub over-now : {b d : List ℕ} {v : PollReport} {s : CallStep} (r : PollNow) → r.kind ≡ NowKind.Over → r.report ≡ v → Reports b d v s → Quiets b d r s
over-now {b} {d} {v} {s} r k e q = record { next = ended r s.next k e q.next; held = q.held; heard = q.heard; clear = q.clear; lay = q.lay }

pub nothing_is : (s : State) (w : WifiState) → tick_step s (disconnect_tick w s.link.disconnect_started_tick) ≡ nothing_by s w
unfolding tick_step nothing_by disconnect_tick
nothing_is s WifiState.Down = refl
nothing_is s WifiState.Connecting = refl
nothing_is s WifiState.Connected = refl
nothing_is s WifiState.Disconnecting = refl
