-- How a run ends, on a session's bytes b and the work buffer buf.
use Rattle.std.specs.Prelude.{ℕ, ◌≡◌, Bool, true, false, List, []}
use Rattle.definition.specs.Bus.{Bytes}
use Rattle.definition.specs.Prog.{World, world}
use Rattle.definition.specs.Run.{End}
use Rattle.session_bytes.specs.Session.{session_in}
use Rattle.undo.specs.Undo.{Kept, back_session, back_buf}
use Rattle.asking.specs.declared.Back.{Back}
use Rattle.run_end.specs.declared.EndKind.{EndKind}
use Rattle.run_end.specs.declared.RunEnd.{RunEnd}
use Rattle.run_end.specs.RunEnd.{Tells}

abbrev pub world_in : List ℕ → Bytes → World
world_in b buf = world (session_in b).st buf (session_in b).list

abbrev pub is_back : Back → Bool
is_back Back.No = false
is_back Back.Unrecorded = true
is_back Back.WrongAnswer = true
is_back Back.LogFull = true

abbrev pub back_kind : Back → EndKind
back_kind Back.No = EndKind.Done
back_kind Back.Unrecorded = EndKind.Unrecorded
back_kind Back.WrongAnswer = EndKind.WrongAnswer
back_kind Back.LogFull = EndKind.LogFull

-- e: the world before the call, where it is to be put back; else what stands in the bytes
abbrev pub Stands : World → End → List ℕ → Bytes → Bool → Type 0
Stands e x b buf true = world x.st x.buf x.list ≡ e
Stands e x b buf false = world_in b buf ≡ world x.st x.buf x.list

-- the run came to x, the log to l
pub record Ends (e : World) (x : End) (r : RunEnd) (l b : List ℕ) (buf : Bytes) : Type 0 where
  pub tells : Tells r x.outcome
  pub len : r.len ≡ x.len
  pub log : l ≡ x.log
  pub output : x.output ≡ []
  pub left : Stands e x b buf r.back

-- u, b, c: what is kept, session and work buffer before; v, d, f: after; put back they give the same
pub record KeptAll (u v b d : List ℕ) (c f : Bytes) : Type 0 where
  pub kept : Kept v
  pub session : back_session v d ≡ back_session u b
  pub buf : back_buf v f ≡ back_buf u c
