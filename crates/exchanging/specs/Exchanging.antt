-- What a step of a call's exchanges leaves: in a session's bytes (b before it, d after it), in the work buffer (c and f), and in what is
-- kept (u and v). The code's flat values in the mirror's terms.
use Rattle.std.specs.Prelude.{ℕ, ◌≡◌, Bool, false, List}
use Rattle.slices.specs.Pick.{pick}
use Rattle.wlan.specs.declared.State.{State}
use Rattle.definition.specs.Bus.{Bytes}
use Rattle.definition.specs.Scan.{cleared}
use Rattle.control.specs.declared.CallNext.{CallNext}
use Rattle.control.specs.declared.CallPoint.{CallPoint}
use Rattle.control.specs.declared.CallStep.{CallStep}
use Rattle.control.specs.declared.Lay.{Lay}
use Rattle.control.specs.declared.Stage.{Stage}
use Rattle.control.specs.Steps.{lays, step}
use Rattle.control.specs.Meaning.{Args, laid_all}
use Rattle.session_bytes.specs.declared.session.Session.{Session}
use Rattle.session_bytes.specs.Session.{session_in, with_state}
use Rattle.places.specs.Places.{Holds}
use Rattle.undo.specs.Undo.{Kept, back_session, back_buf}
use Rattle.reply_points.specs.ReplyPoints as reply
use Rattle.plans.specs.declared.PlanKind.{PlanKind}
use Rattle.plans.specs.Plans.{pause_by}
use Rattle.exchanging.specs.declared.now.CallKind.{CallKind}
use Rattle.exchanging.specs.declared.now.CallNow.{CallNow}

-- ---- the flat values

unfoldable pub next_by : CallKind → CallNow → CallNext
next_by CallKind.Exchange r = CallNext.Ask (CallPoint.Exchange r.stage (reply.point_of r.at))
next_by CallKind.Pause r = CallNext.Ask (CallPoint.Pause (pause_by r.pause r.ns))
next_by CallKind.Clock r = CallNext.Ask CallPoint.Clock
next_by CallKind.Tick r = CallNext.Ask CallPoint.Tick
next_by CallKind.Ended r = CallNext.Ended r.ending
next_by CallKind.Refused r = CallNext.Refused r.error

abbrev pub next_of : CallNow → CallNext
next_of r = next_by r.kind r

-- where a plan that changes nothing leaves the call
unfoldable pub kind_of : PlanKind → CallKind
kind_of PlanKind.Begin = CallKind.Refused
kind_of PlanKind.Pause = CallKind.Pause
kind_of PlanKind.Clock = CallKind.Clock
kind_of PlanKind.Tick = CallKind.Tick
kind_of PlanKind.LayKey = CallKind.Refused
kind_of PlanKind.LongSsid = CallKind.Refused
kind_of PlanKind.Scan = CallKind.Refused
kind_of PlanKind.Disconnect = CallKind.Refused
kind_of PlanKind.Done = CallKind.Refused
kind_of PlanKind.Give = CallKind.Ended
kind_of PlanKind.Refuse = CallKind.Refused
kind_of PlanKind.RefuseDown = CallKind.Refused

-- ---- a stage's payload

-- its length, where no byte argument changes it
unfoldable pub fixed_len : Stage → ℕ
fixed_len Stage.Country = 20
fixed_len Stage.AntDiv = 4
fixed_len Stage.Txglom = 15
fixed_len Stage.Apsta = 10
fixed_len Stage.BaWsize = 19
fixed_len Stage.Mpdu = 15
fixed_len Stage.RxFactor = 20
fixed_len Stage.EventMessages = 41
fixed_len Stage.InitUp = 0
fixed_len Stage.JoinBaWsize = 19
fixed_len Stage.Wsec = 4
fixed_len Stage.SupWpa = 23
fixed_len Stage.Eapver = 31
fixed_len Stage.SupWpaTmo = 27
fixed_len Stage.Key = 0
fixed_len Stage.Sae = 0
fixed_len Stage.Infra = 4
fixed_len Stage.Auth = 4
fixed_len Stage.Mfp = 8
fixed_len Stage.WpaAuth = 4
fixed_len Stage.Ssid = 0
fixed_len Stage.Escan = 82
fixed_len Stage.Disassoc = 4
fixed_len Stage.Single = 0

-- ---- what a step leaves

-- it changes the state alone: y is laid already, and what was heard before it is in the list
pub record Sets (b d : List ℕ) (r : CallNow) (h : Bool) (y : Lay) (s : CallStep) : Type 0 where
  pub next : next_of r ≡ s.next
  pub held : Holds d (with_state b s.st)
  pub heard : s.heard ≡ h
  pub clear : s.clear ≡ false
  pub lay : s.lay ≡ y

-- the session that bytes hold, with a step's state, its list cleared where the step says so
abbrev pub left_by : List ℕ → CallStep → Session
left_by b s = record { st = s.st; list = pick s.clear (cleared (session_in b).list) (session_in b).list }

-- it clears the list too
pub record Clears (b d : List ℕ) (r : CallNow) (h : Bool) (y : Lay) (s : CallStep) : Type 0 where
  pub next : next_of r ≡ s.next
  pub held : Holds d (left_by b s)
  pub heard : s.heard ≡ h
  pub lay : s.lay ≡ y
  pub session : {u : List ℕ} → Kept u → back_session u d ≡ back_session u b

-- it lays what it lays in c₀, of which c has the first part already; what was heard before it is in the list
pub record Acts (a : Args) (u v b d : List ℕ) (c₀ c f : Bytes) (r : CallNow) (h : Bool) (s : CallStep) : Type 0 where
  pub next : next_of r ≡ s.next
  pub laid : f ≡ laid_all a s.lay c₀
  pub held : Holds d (left_by b s)
  pub heard : s.heard ≡ h
  pub kept : Kept v
  pub session : back_session v d ≡ back_session u b
  pub buf : back_buf v f ≡ back_buf u c
