-- What tactics are to know of a session's bytes.
use Rattle.session_bytes.proofs.Laws.{session-length}

pub ruleset sized = (session-length)
