-- What the rest of a recording makes of a call, from where its run stands; b: the session's bytes, a: the call's arguments, x: what the run
-- comes to.
use Rattle.std.specs.Prelude.{ℕ, ◌≡◌, Bool, true, false, List, drop}
use Rattle.wlan.specs.declared.AsyncEvent.{AsyncEvent}
use Rattle.wlan.specs.declared.ScanList.{ScanList}
use Rattle.definition.specs.Bus.{Bytes}
use Rattle.definition.specs.Prog.{World, world}
use Rattle.definition.specs.Run.{End}
use Rattle.handling.specs.Handle.{list_heard}
use Rattle.control.specs.declared.Before.{Before}
use Rattle.control.specs.declared.CallPoint.{CallPoint}
use Rattle.control.specs.Meaning.{Args, lens_of, laid_before, call_shown}
use Rattle.session_bytes.specs.Session.{session_in}
use Rattle.going.specs.Onward.{go}
use Rattle.plans.specs.declared.PauseKind.{PauseKind}
use Rattle.plans.specs.declared.Plan.{Plan}
use Rattle.plans.specs.Plans.{planned, pause_by}
use Rattle.exchanging.specs.declared.now.CallKind.{CallKind}
use Rattle.turning.specs.Turning.{Ends}
use Rattle.exchange_call.specs.declared.CallTurned.{CallTurned}

-- what the call does next is left; before is laid and what was heard is in the list
pub record Plans (a : Args) (e : World) (x : End) (rec : List ℕ) (f : Plan) (pos len : ℕ) (log b : List ℕ) (buf : Bytes) : Type 0 where
  pub heard : Bool
  pub before : Before
  pub event : AsyncEvent
  pub under : Bytes
  pub list : ScanList
  pub laid : buf ≡ laid_before before under
  pub listed : (session_in b).list ≡ list_heard heard event list
  pub on : go e (drop pos rec) log len (call_shown a (planned f a.job (lens_of a) (session_in b).st heard before) event (world (session_in b).st under list)) ≡ x

abbrev pub TurnsBy : Args → World → End → List ℕ → CallTurned → List ℕ → List ℕ → Bytes → Bool → Type 0
TurnsBy a e x rec r log b buf true = Plans a e x rec r.plan r.pos r.end.len log b buf
TurnsBy a e x rec r log b buf false = Ends e x r.end log b buf

-- the run goes on to x, or came to it
abbrev pub Turns : Args → World → End → List ℕ → CallTurned → List ℕ → List ℕ → Bytes → Type 0
Turns a e x rec r log b buf = TurnsBy a e x rec r log b buf r.on

-- the clock, the tick, or else a wait
unfoldable pub point_by : CallKind → PauseKind → ℕ → CallPoint
point_by CallKind.Exchange p ns = CallPoint.Pause (pause_by p ns)
point_by CallKind.Pause p ns = CallPoint.Pause (pause_by p ns)
point_by CallKind.Clock p ns = CallPoint.Clock
point_by CallKind.Tick p ns = CallPoint.Tick
point_by CallKind.Ended p ns = CallPoint.Pause (pause_by p ns)
point_by CallKind.Refused p ns = CallPoint.Pause (pause_by p ns)
