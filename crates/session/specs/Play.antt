-- What a call leaves that was played.
use Rattle.std.specs.Prelude.{ℕ, ◌≡◌, List, length, take, replicate}
use Rattle.definition.specs.Bus.{Bytes}
use Rattle.definition.specs.Prog.{World, world}
use Rattle.definition.specs.Run.{End}
use Rattle.definition.specs.Player.{Arguments, arguments_of, empty_log, played_call}
use Rattle.run_end.specs.declared.RunEnd.{RunEnd}
use Rattle.turning.specs.Turning.{world_in}
use Rattle.taking.specs.Taking.{Leaves}
use Rattle.lines.specs.Input.{output_length}

-- what the call leaves that x is, on the session's bytes b and the work buffer buf, with the output o before
abbrev pub Plays : Arguments → List ℕ → List ℕ → List ℕ → List ℕ → List ℕ → Bytes → Bytes → Bytes → Bytes → RunEnd → Type 0
Plays x recording log log' b d buf g o o' r = Leaves (played_call (world_in b buf) recording log o x) log' d g o' r

-- a: the argument bytes
abbrev pub call_end : World → List ℕ → ℕ → List ℕ → End
call_end w recording c a = played_call w recording empty_log (replicate (output_length c a) 0) (arguments_of c a)

-- what the next call finds
abbrev pub world_after : End → World
world_after e = world e.st e.buf e.list

-- s stands at the front of t
abbrev pub Fronts : List ℕ → List ℕ → Type 0
Fronts s t = take (length s) t ≡ s
