-- What a call leaves on a session's bytes, its output too.
use Rattle.std.specs.Prelude.{ℕ, ◌≡◌, true, List}
use Rattle.definition.specs.Bus.{Bytes}
use Rattle.definition.specs.Prog.{world}
use Rattle.definition.specs.Run.{End}
use Rattle.session_bytes.specs.Session.{is_session}
use Rattle.run_end.specs.declared.RunEnd.{RunEnd}
use Rattle.run_end.specs.RunEnd.{Tells}
use Rattle.turning.specs.Turning.{world_in}

-- r, the log log', the session's bytes d, the work buffer g and the output o are what e says
pub record Leaves (e : End) (log' d : List ℕ) (g o : Bytes) (r : RunEnd) : Type 0 where
  pub tells : Tells r e.outcome
  pub len : r.len ≡ e.len
  pub log : log' ≡ e.log
  pub output : o ≡ e.output
  pub held : is_session d ≡ true
  pub stands : world_in d g ≡ world e.st e.buf e.list
