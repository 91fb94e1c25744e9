-- What a call does next, as the code tells it (`Plan`): in the mirror's terms.
use Rattle.std.specs.Prelude.{ℕ, Bool, true, false, None}
use Rattle.slices.specs.Pick.{pick}
use Rattle.wlan.specs.declared.DriverError.{DriverError}
use Rattle.wlan.specs.declared.State.{State}
use Rattle.wlan.specs.declared.WifiAuth.{WifiAuth}
use Rattle.wlan.specs.declared.WifiState.{WifiState}
use Rattle.wlan.specs.State.{with_link, set_link_state, set_auth}
use Rattle.definition.specs.Join.{is_dev_error}
use Rattle.requests.specs.declared.Request.{Request}
use Rattle.ioctl.specs.declared.IoctlNext.{IoctlNext}
use Rattle.ioctl.specs.Ioctl.{start_step}
use Rattle.control.specs.declared.Before.{Before}
use Rattle.control.specs.declared.CallNext.{CallNext}
use Rattle.control.specs.declared.CallPoint.{CallPoint}
use Rattle.control.specs.declared.CallStep.{CallStep}
use Rattle.control.specs.declared.Ending.{Ending}
use Rattle.control.specs.declared.Job.{Job}
use Rattle.control.specs.declared.Lens.{Lens}
use Rattle.control.specs.declared.PausePoint.{PausePoint}
use Rattle.control.specs.declared.RequestPut.{RequestPut}
use Rattle.control.specs.declared.Stage.{Stage}
use Rattle.control.specs.Steps.{lays, step, asks, ends, refuses, linked_state}
use Rattle.control.specs.Stages.{request_at, request_len, is_tried, is_last}
use Rattle.control.specs.Exchange as to
use Rattle.reply_points.specs.declared.IoctlNowKind.{IoctlNowKind}
use Rattle.plans.specs.declared.PauseKind.{PauseKind}
use Rattle.plans.specs.declared.BeginKind.{BeginKind}
use Rattle.plans.specs.declared.Plan.{Plan}
use Rattle.plans.specs.declared.PlanKind.{PlanKind}

unfoldable pub pause_by : PauseKind → ℕ → PausePoint
pause_by PauseKind.AfterCountry ns = PausePoint.AfterCountry
pause_by PauseKind.Settle ns = PausePoint.Settle ns
pause_by PauseKind.AfterEventMessages ns = PausePoint.AfterEventMessages
pause_by PauseKind.AfterUp ns = PausePoint.AfterUp
pause_by PauseKind.BeforeKey ns = PausePoint.BeforeKey
pause_by PauseKind.BeforeSae ns = PausePoint.BeforeSae

-- ---- what a call does next

abbrev pub pausing : State → Bool → Before → PauseKind → ℕ → CallStep
pausing s h before p ns = asks s h before (CallPoint.Pause (pause_by p ns))

abbrev pub key_laid : State → Bool → Before → CallStep
key_laid s h before = step s h (lays before (RequestPut.Payload Request.Key) None) (CallNext.Ask (CallPoint.Pause PausePoint.BeforeKey))

-- the last request of a join of this auth begins
abbrev pub connecting_by : WifiAuth → State → State
connecting_by a s = with_link s (set_link_state (set_auth s.link a) WifiState.Connecting)

unfoldable pub state_by : BeginKind → WifiAuth → State → State
state_by BeginKind.Whole a s = s
state_by BeginKind.Numbered a s = s
state_by BeginKind.Joined a s = connecting_by a s

unfoldable pub put_by : BeginKind → Request → ℕ → RequestPut
put_by BeginKind.Whole r id = RequestPut.Whole r id
put_by BeginKind.Numbered r id = RequestPut.Numbered r id
put_by BeginKind.Joined r id = RequestPut.Whole r id

abbrev pub begun_by : BeginKind → Job → Lens → Stage → State → Bool → Before → CallStep
begun_by b j l g s h before = to.begun (start_step s (request_len (request_at j g) l)) g h before (put_by b (request_at j g) (to.new_id s))

abbrev pub begin_by : BeginKind → Job → Lens → Stage → State → Bool → Before → CallStep
begin_by b j l g s h before = begun_by b j l g (state_by b j.auth s) h before

unfoldable pub plan_by : PlanKind → Plan → Job → Lens → State → Bool → Before → CallStep
plan_by PlanKind.Begin r j l s h before = begin_by r.begin j l r.stage s h before
plan_by PlanKind.Pause r j l s h before = pausing s h before r.pause r.ns
plan_by PlanKind.Clock r j l s h before = asks s h before CallPoint.Clock
plan_by PlanKind.Tick r j l s h before = asks s h before CallPoint.Tick
plan_by PlanKind.LayKey r j l s h before = key_laid s h before
plan_by PlanKind.LongSsid r j l s h before = refuses (linked_state (to.connecting_state j s) WifiState.Down) h before DriverError.InvalidArg
plan_by PlanKind.Scan r j l s h before = to.scan_step s h before
plan_by PlanKind.Disconnect r j l s h before = ends (to.disconnecting_state s r.t) h before Ending.Done
plan_by PlanKind.Done r j l s h before = ends s h before Ending.Done
plan_by PlanKind.Give r j l s h before = ends s h before j.ending
plan_by PlanKind.Refuse r j l s h before = refuses s h before r.error
plan_by PlanKind.RefuseDown r j l s h before = refuses (linked_state s WifiState.Down) h before r.error

abbrev pub planned : Plan → Job → Lens → State → Bool → Before → CallStep
planned r j l s h before = plan_by r.kind r j l s h before

-- ---- after an exchange

-- the stage that follows at once, where one does
unfoldable pub next_stage : Stage → Stage
next_stage Stage.Country = Stage.Single
next_stage Stage.AntDiv = Stage.Txglom
next_stage Stage.Txglom = Stage.Apsta
next_stage Stage.Apsta = Stage.BaWsize
next_stage Stage.BaWsize = Stage.Mpdu
next_stage Stage.Mpdu = Stage.RxFactor
next_stage Stage.RxFactor = Stage.Single
next_stage Stage.EventMessages = Stage.Single
next_stage Stage.InitUp = Stage.Single
next_stage Stage.JoinBaWsize = Stage.Single
next_stage Stage.Wsec = Stage.SupWpa
next_stage Stage.SupWpa = Stage.Eapver
next_stage Stage.Eapver = Stage.SupWpaTmo
next_stage Stage.SupWpaTmo = Stage.Single
next_stage Stage.Key = Stage.Single
next_stage Stage.Sae = Stage.Infra
next_stage Stage.Infra = Stage.Auth
next_stage Stage.Auth = Stage.Mfp
next_stage Stage.Mfp = Stage.WpaAuth
next_stage Stage.WpaAuth = Stage.Single
next_stage Stage.Ssid = Stage.Single
next_stage Stage.Escan = Stage.Single
next_stage Stage.Disassoc = Stage.Single
next_stage Stage.Single = Stage.Single

unfoldable pub stop_step : Stage → DriverError → State → Bool → Before → CallStep
stop_step g e s h before = pick (is_dev_error e) (pick (is_last g) (refuses (linked_state s WifiState.Down) h before e) (refuses s h before e)) (refuses s h before e)

-- a refusal that does not stop the call
unfoldable pub is_ignored : Stage → DriverError → Bool
is_ignored g e = pick (is_dev_error e) (is_tried g) false

unfoldable pub goes_on : IoctlNowKind → Stage → DriverError → Bool
goes_on IoctlNowKind.Ask g e = false
goes_on IoctlNowKind.Done g e = true
goes_on IoctlNowKind.Refused g e = is_ignored g e

abbrev pub is_ask : IoctlNowKind → Bool
is_ask IoctlNowKind.Ask = true
is_ask IoctlNowKind.Done = false
is_ask IoctlNowKind.Refused = false

-- what is laid when the next step begins
unfoldable pub before_in : IoctlNext → Before
before_in (IoctlNext.Ask h p) = Before.Header h
before_in (IoctlNext.Done c) = Before.Copy c
before_in (IoctlNext.Refused h e) = Before.Header h
