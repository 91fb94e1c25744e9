-- What an event does to a session.
use Rattle.std.specs.Prelude.{ℕ, ◌≡◌, List}
use Rattle.definition.specs.Event.{list_after}
use Rattle.wlan.specs.declared.AsyncEvent.{AsyncEvent}
use Rattle.handling.specs.Handle.{state_after, handled_of, list_heard}
use Rattle.session_bytes.specs.declared.session.Session.{Session}
use Rattle.session_bytes.specs.Session.{session_in}
use Rattle.undo.specs.Undo.{Kept, kept_of, back_session, back_buf}

-- the session after an event of a declared length
unfoldable pub handled_session : List ℕ → AsyncEvent → ℕ → Session
handled_session b e len =
    record {
      st = (handled_of (session_in b).st len e).st;
      list = list_heard (handled_of (session_in b).st len e).heard e (session_in b).list;
    }

-- where the length suffices
unfoldable pub after_session : List ℕ → AsyncEvent → Session
after_session b e = record { st = state_after e (session_in b).st; list = list_after e (session_in b).list }

-- u and v: what is kept, s and t: the session's bytes, before and after; put back they give the same
pub record KeptFor (u v s t : List ℕ) : Type 0 where
  pub kept : Kept v
  pub count : kept_of v ≡ kept_of u
  pub buf : (b : List ℕ) → back_buf v b ≡ back_buf u b
  pub session : back_session v t ≡ back_session u s
