-- What the rest of a recording makes of a send of a frame, from where its run stands; b: the session's bytes.
use Rattle.std.specs.Prelude.{ℕ, ◌+◌, ◌≤◌, ◌≡◌, Bool, true, false, List, [], length, drop}
use Rattle.definition.specs.Bus.{Bytes}
use Rattle.definition.specs.Prog.{World}
use Rattle.definition.specs.Run.{End}
use Rattle.send.specs.declared.OutPacket.{OutPacket}
use Rattle.send.specs.declared.SendPoint.{SendPoint}
use Rattle.control.specs.declared.CallNext.{CallNext}
use Rattle.control.specs.declared.CallPoint.{CallPoint}
use Rattle.control.specs.declared.CallStep.{CallStep}
use Rattle.control.specs.declared.Ending.{Ending}
use Rattle.control.specs.Begin.{frame_start}
use Rattle.control.specs.Meaning.{Args, call_tree}
use Rattle.effects.specs.Args.{args_of}
use Rattle.jobs.specs.Jobs.{frame_job}
use Rattle.session_bytes.specs.Session.{session_in}
use Rattle.going.specs.Onward.{go}
use Rattle.turning.specs.Turning.{world_in, Ends}
use Rattle.send_points.specs.declared.SendAt.{SendAt}
use Rattle.send_points.specs.declared.SendNow.{SendNow}
use Rattle.send_points.specs.declared.SentKind.{SentKind}
use Rattle.send_points.specs.SendPoints.{point_of}
use Rattle.send_call.specs.declared.SendTurned.{SendTurned}

-- the frame is a send's byte argument
abbrev pub args_in : Bytes → Args
args_in frame = args_of (frame_job (length frame)) frame []

-- its first step
abbrev pub start_in : ℕ → Bytes → List ℕ → CallStep
start_in interface frame b = frame_start (frame_job (length frame)) interface (session_in b).st

abbrev pub out_of : ℕ → OutPacket
out_of size = record { channel = 2; size = size }

-- the size of a frame's packet
pub record Sized (frame : Bytes) (size : ℕ) : Type 0 where
  pub whole : size ≡ 18 + length frame
  pub most : length frame ≤ 2030

abbrev pub asks_of : SendPoint → CallNext
asks_of q = CallNext.Ask (CallPoint.Send q)

abbrev pub asks_at : SendAt → CallNext
asks_at p = asks_of (point_of p)

-- what a send's step comes to, for the call
unfoldable pub call_by : SentKind → SendNow → CallNext
call_by SentKind.Ask n = asks_at n.at
call_by SentKind.Sent n = CallNext.Ended Ending.Done
call_by SentKind.Refused n = CallNext.Refused n.error

abbrev pub call_now : SendNow → CallNext
call_now n = call_by n.kind n

-- the run goes on to x, or came to it
abbrev pub TurnsBy : Bytes → World → End → List ℕ → SendTurned → List ℕ → List ℕ → Bytes → Bool → Type 0
TurnsBy frame e x rec r log b buf true = go e (drop r.pos rec) log r.end.len (call_tree (args_in frame) (asks_at r.at) (world_in b buf)) ≡ x
TurnsBy frame e x rec r log b buf false = Ends e x r.end log b buf

abbrev pub Turns : Bytes → World → End → List ℕ → SendTurned → List ℕ → List ℕ → Bytes → Type 0
Turns frame e x rec r log b buf = TurnsBy frame e x rec r log b buf r.on
