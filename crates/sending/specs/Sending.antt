-- What a send's step leaves: in a session's bytes (b before it, d after it), in the work buffer (c and f), and in what is kept (u and v).
use Rattle.std.specs.Prelude.{ℕ, ◌≡◌, Bool, List}
use Rattle.wlan.specs.declared.AsyncEvent.{AsyncEvent}
use Rattle.definition.specs.Bus.{Bytes}
use Rattle.handling.specs.Handle.{list_heard}
use Rattle.send.specs.declared.OutPacket.{OutPacket}
use Rattle.send.specs.declared.SendStep.{SendStep}
use Rattle.send.specs.Send.{spending, put_of}
use Rattle.send.specs.Meaning.{laid_header}
use Rattle.session_bytes.specs.declared.session.Session.{Session}
use Rattle.session_bytes.specs.Session.{session_in, with_state}
use Rattle.places.specs.Places.{Holds}
use Rattle.undo.specs.Undo.{Kept, back_session, back_buf}
use Rattle.send_points.specs.declared.SendNow.{SendNow}
use Rattle.send_points.specs.SendPoints.{header_in, next_by, next_of}

-- bytes are laid in the work buffer where they are kept
pub record Covered (u v : List ℕ) (c f : Bytes) : Type 0 where
  pub kept : Kept v
  pub session : (s : List ℕ) → back_session v s ≡ back_session u s
  pub buf : back_buf v f ≡ back_buf u c

-- a packet's header is laid, and its sequence number spent
pub record Spends (u v b d : List ℕ) (c f : Bytes) (o : OutPacket) : Type 0 where
  pub laid : f ≡ laid_header (put_of (session_in b).st o) c
  pub held : Holds d (with_state b (spending (session_in b).st))
  pub kept : Kept v
  pub session : back_session v d ≡ back_session u b
  pub buf : back_buf v f ≡ back_buf u c

-- a step that leaves the list, but for an event that it heard before
pub record Emits (u v b d : List ℕ) (c f : Bytes) (r : SendNow) (h : Bool) (s : SendStep) : Type 0 where
  pub next : next_of r (header_in s.next) ≡ s.next
  pub laid : f ≡ laid_header (header_in s.next) c
  pub held : Holds d (with_state b s.st)
  pub heard : s.heard ≡ h
  pub kept : Kept v
  pub session : back_session v d ≡ back_session u b
  pub buf : back_buf v f ≡ back_buf u c

-- e: the event that came
abbrev pub listed : List ℕ → AsyncEvent → SendStep → Session
listed b e s = record { st = s.st; list = list_heard s.heard e (session_in b).list }

pub record Sends (u v b d : List ℕ) (c f : Bytes) (r : SendNow) (e : AsyncEvent) (s : SendStep) : Type 0 where
  pub next : next_by r.kind r (header_in s.next) ≡ s.next
  pub laid : f ≡ laid_header (header_in s.next) c
  pub held : Holds d (listed b e s)
  pub kept : Kept v
  pub session : back_session v d ≡ back_session u b
  pub buf : back_buf v f ≡ back_buf u c
