-- What the rest of a recording makes of a poll, from where its run stands; b: the session's bytes.
use Rattle.std.specs.Prelude.{ℕ, ◌≡◌, Bool, true, false, List, [], drop}
use Rattle.definition.specs.Bus.{Bytes}
use Rattle.definition.specs.Prog.{World}
use Rattle.definition.specs.Run.{End}
use Rattle.control.specs.declared.CallNext.{CallNext}
use Rattle.control.specs.declared.CallPoint.{CallPoint}
use Rattle.control.specs.Meaning.{Args, call_tree}
use Rattle.effects.specs.Args.{args_of}
use Rattle.jobs.specs.Jobs.{no_job}
use Rattle.session_bytes.specs.Session.{is_session}
use Rattle.poll_points.specs.PollPoints.{point_of}
use Rattle.poll_points.specs.declared.PollAt.{PollAt}
use Rattle.going.specs.Onward.{go}
use Rattle.undo.specs.Undo.{Kept, back_session}
use Rattle.turning.specs.Turning.{world_in, Ends}
use Rattle.poll_call.specs.declared.PollTurned.{PollTurned}

-- a poll has no byte arguments
abbrev pub no_args : Args
no_args = args_of no_job [] []

-- the session's bytes after a change of the state alone: what is kept gives the same
pub record Front (b d : List ℕ) : Type 0 where
  pub known : is_session d ≡ true
  pub back : (u : List ℕ) → Kept u → back_session u d ≡ back_session u b

abbrev pub asks_at : PollAt → CallNext
asks_at p = CallNext.Ask (CallPoint.Poll (point_of p))

-- the run goes on to x, or came to it
abbrev pub TurnsBy : World → End → List ℕ → PollTurned → List ℕ → List ℕ → Bytes → Bool → Type 0
TurnsBy e x rec r log b buf true = go e (drop r.pos rec) log r.end.len (call_tree no_args (asks_at r.at) (world_in b buf)) ≡ x
TurnsBy e x rec r log b buf false = Ends e x r.end log b buf

abbrev pub Turns : World → End → List ℕ → PollTurned → List ℕ → List ℕ → Bytes → Type 0
Turns e x rec r log b buf = TurnsBy e x rec r log b buf r.on
