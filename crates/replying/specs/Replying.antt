-- What a step of `do_ioctl` leaves: in a session's bytes (b before it, d after it), in the work buffer (c and f), and in what is kept (u and v).
use Rattle.std.specs.Prelude.{ℕ, ◌≡◌, Bool, List, Option, Ok}
use Rattle.wlan.specs.declared.AsyncEvent.{AsyncEvent}
use Rattle.wlan.specs.declared.State.{State}
use Rattle.definition.specs.Bus.{Bytes}
use Rattle.handling.specs.Handle.{list_heard}
use Rattle.device.specs.declared.Arrival.{Arrival}
use Rattle.device.specs.Meaning.{arrival_at}
use Rattle.send.specs.declared.SendPoint.{SendPoint}
use Rattle.send.specs.declared.SendStep.{SendStep}
use Rattle.send.specs.Send as snd
use Rattle.send.specs.Meaning.{laid_header}
use Rattle.ioctl.specs.declared.IoctlStep.{IoctlStep}
use Rattle.ioctl.specs.Ioctl.{numbering, out_of, sending_step}
use Rattle.session_bytes.specs.declared.session.Session.{Session}
use Rattle.session_bytes.specs.Session.{session_in, with_state}
use Rattle.places.specs.Places.{Holds}
use Rattle.undo.specs.Undo.{Kept, back_session, back_buf}
use Rattle.reply_points.specs.declared.IoctlNow.{IoctlNow}
use Rattle.reply_points.specs.ReplyPoints.{header_in, next_of}
use Rattle.send.specs.declared.Header.{Header}

-- ---- the send's step

abbrev pub send_arrival : SendPoint → Bytes → State → Arrival
send_arrival p b s = arrival_at (snd.send_op p) b s.sdpcm

abbrev pub send_step : State → ℕ → SendPoint → ℕ → Bytes → SendStep
send_step s len p v b = snd.send_answer s (out_of len) p (Ok v) (send_arrival p b s)

-- the first step, once the id is spent
abbrev pub first_step : State → ℕ → IoctlStep
first_step s len = sending_step (snd.start_step s (out_of len)) len

-- ---- what a step leaves

abbrev pub Numbered : List ℕ → List ℕ → Type 0
Numbered b d = Holds d (with_state b (numbering (session_in b).st))

-- a step that changes the state alone; the header x is laid already, and what was heard before it is in the list
pub record Follows (b d : List ℕ) (r : IoctlNow) (h : Bool) (x : Option Header) (s : IoctlStep) : Type 0 where
  pub next : next_of r (header_in s.next) ≡ s.next
  pub header : header_in s.next ≡ x
  pub held : Holds d (with_state b s.st)
  pub heard : s.heard ≡ h

-- the first step, which hears nothing
pub record Starts (u v b d : List ℕ) (c f : Bytes) (r : IoctlNow) (s : IoctlStep) : Type 0 where
  pub next : next_of r (header_in s.next) ≡ s.next
  pub laid : f ≡ laid_header (header_in s.next) c
  pub held : Holds d (with_state b s.st)
  pub kept : Kept v
  pub session : back_session v d ≡ back_session u b
  pub buf : back_buf v f ≡ back_buf u c

-- e: the event that came
abbrev pub listed : List ℕ → AsyncEvent → IoctlStep → Session
listed b e s = record { st = s.st; list = list_heard s.heard e (session_in b).list }

pub record Replies (u v b d : List ℕ) (c f : Bytes) (r : IoctlNow) (e : AsyncEvent) (s : IoctlStep) : Type 0 where
  pub next : next_of r (header_in s.next) ≡ s.next
  pub laid : f ≡ laid_header (header_in s.next) c
  pub held : Holds d (listed b e s)
  pub kept : Kept v
  pub session : back_session v d ≡ back_session u b
  pub buf : back_buf v f ≡ back_buf u c
