-- Where a poll stands, in the mirror's terms.
use Rattle.std.specs.Prelude.{ℕ, ◌≡◌, false, List, Option, None}
use Rattle.wlan.specs.declared.DriverError.{DriverError}
use Rattle.wlan.specs.declared.WifiState.{WifiState}
use Rattle.control.specs.declared.CallNext.{CallNext}
use Rattle.control.specs.declared.CallPoint.{CallPoint}
use Rattle.control.specs.declared.CallStep.{CallStep}
use Rattle.poll_points.specs.PollPoints.{point_of}
use Rattle.poll_report.specs.PollReport.{Gives, Quiet}
use Rattle.poll_now.specs.declared.NowKind.{NowKind}
use Rattle.poll_now.specs.declared.PollNow.{PollNow}

unfoldable pub NextBy : NowKind → PollNow → CallNext → Type 0
NextBy NowKind.Ask r n = CallNext.Ask (CallPoint.Poll (point_of r.at)) ≡ n
NextBy NowKind.Tick r n = CallNext.Ask (CallPoint.PollTick r.started) ≡ n
NextBy NowKind.Over r n = Gives n r.report
NextBy NowKind.HeaderBeyond r n = CallNext.Refused DriverError.EventHeader ≡ n

abbrev pub NextIs : PollNow → CallNext → Type 0
NextIs r n = NextBy r.kind r n

abbrev pub Quiets : List ℕ → List ℕ → PollNow → CallStep → Type 0
Quiets b d r s = Quiet (NextIs r) b d false s

-- the tick at which a disconnect began that goes on
unfoldable pub disconnect_tick : WifiState → Option ℕ → Option ℕ
disconnect_tick WifiState.Down t = None
disconnect_tick WifiState.Connecting t = None
disconnect_tick WifiState.Connected t = None
disconnect_tick WifiState.Disconnecting t = t
