use Rattle.session_bytes.proofs.Laws.{session-length}
use Rattle.observed.proofs.turn.Goals as goal
