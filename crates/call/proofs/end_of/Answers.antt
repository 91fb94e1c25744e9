use mathlib.Core.Path.{refl}
use Rattle.session_bytes.proofs.Laws.{session-length}
use Rattle.call.proofs.Laws.{ended}
use Rattle.call.proofs.end_of.Goals as goal

pub state_in-requires : goal.state_in-requires
state_in-requires c = c.requires

pub returns : goal.returns
returns c = λ e log buf h. ended e h (c.outcome_of.ensures e.outcome h.tells) c.state_in.ensures c.list_of.ensures refl
