-- A session's bytes: the state's, then the scan list's. Bytes are a session's where they are the bytes of what they hold.
use Rattle.std.specs.Prelude.{ℕ, Bool, ◌&&◌, List, ◌++◌, eqb, length, drop}
use Rattle.wlan.specs.declared.State.{State}
use Rattle.definition.specs.Scan.{same_bytes}
use Rattle.state_bytes.specs.StateBytes.{state_bytes, state_in}
use Rattle.session_bytes.specs.declared.session.Session.{Session}
use Rattle.session_bytes.specs.ListBytes.{list_bytes, list_in}

unfoldable pub session_bytes : Session → List ℕ
session_bytes s = state_bytes s.st ++ list_bytes s.list

unfoldable pub session_in : List ℕ → Session
session_in b = record { st = state_in b; list = list_in (drop 41 b) }

unfoldable pub is_session : List ℕ → Bool
is_session b = eqb (length b) 1393 && same_bytes (session_bytes (session_in b)) b

-- the session that bytes hold, with another state
abbrev pub with_state : List ℕ → State → Session
with_state b s = record { st = s; list = (session_in b).list }
