-- What the rest of a recording makes of an exchange, from where its run stands; b: the session's bytes, a: the call's arguments, x: what the
-- run comes to.
use Rattle.std.specs.Prelude.{ℕ, ◌+◌, ◌<◌, ◌≡◌, Bool, false, List, length, drop, Option}
use Rattle.slices.specs.Pick.{pick}
use Rattle.wlan.specs.declared.AsyncEvent.{AsyncEvent}
use Rattle.wlan.specs.declared.ScanList.{ScanList}
use Rattle.definition.specs.Bus.{Bytes}
use Rattle.definition.specs.Prog.{World, world}
use Rattle.definition.specs.Run.{End}
use Rattle.handling.specs.Handle.{list_heard}
use Rattle.send.specs.Meaning.{laid_header}
use Rattle.control.specs.declared.CallNext.{CallNext}
use Rattle.control.specs.declared.CallPoint.{CallPoint}
use Rattle.control.specs.declared.Stage.{Stage}
use Rattle.control.specs.Stages.{request_at, request_len}
use Rattle.control.specs.Exchange.{exchange_next}
use Rattle.control.specs.Meaning.{Args, lens_of, call_tree, call_shown}
use Rattle.session_bytes.specs.Session.{session_in}
use Rattle.going.specs.Onward.{go}
use Rattle.asking.specs.Asking.{followed, UnlessBack}
use Rattle.reply_points.specs.declared.IoctlAt.{IoctlAt}
use Rattle.reply_points.specs.declared.IoctlNow.{IoctlNow}
use Rattle.reply_points.specs.ReplyPoints as reply
use Rattle.plans.specs.Plans.{is_ask}
use Rattle.turning.specs.Turning.{world_in, is_back}
use Rattle.ioctl_call.specs.declared.IoctlTurned.{IoctlTurned}
use Rattle.send.specs.declared.Header.{Header}

-- stage g of arguments that fit, whose payload is n bytes long
pub record Fits (a : Args) (g : Stage) (n : ℕ) : Type 0 where
  pub modest : length a.first + length a.second < 60000
  pub len : n ≡ request_len (request_at a.job g) (lens_of a)

-- the run at a point of stage g's exchange
abbrev pub asked_at : Args → Stage → World → List ℕ → List ℕ → ℕ → ℕ → IoctlAt → List ℕ → Bytes → End
asked_at a g e rec log pos len p b buf = go e (drop pos rec) log len (call_tree a (CallNext.Ask (CallPoint.Exchange g (reply.point_of p))) (world_in b buf))

-- what follows the exchange's step n is left; its header is laid and what it heard is in the list
pub record Answered (a : Args) (g : Stage) (e : World) (x : End) (rec : List ℕ) (n : IoctlNow) (pos len : ℕ) (log b : List ℕ) (buf : Bytes) : Type 0 where
  pub heard : Bool
  pub header : Option Header
  pub event : AsyncEvent
  pub under : Bytes
  pub list : ScanList
  pub laid : buf ≡ laid_header (reply.header_in (reply.next_of n header)) under
  pub listed : (session_in b).list ≡ list_heard heard event list
  pub on : go e (drop pos rec) log len (call_shown a (exchange_next a.job (lens_of a) g (session_in b).st heard (reply.next_of n header)) event (world (session_in b).st under list)) ≡ x

-- or all is to be put back
abbrev pub Stood : Args → Stage → World → End → List ℕ → IoctlTurned → List ℕ → List ℕ → Bytes → Type 0
Stood a g e x rec t log b buf = UnlessBack (Answered a g e x rec t.now t.asked.pos t.asked.len log b buf) (followed e log t.asked.len x t.asked.back ≡ x) t.asked.back

-- it goes on with another operation
abbrev pub on_of : IoctlTurned → Bool
on_of t = pick (is_back t.asked.back) false (is_ask t.now.kind)
