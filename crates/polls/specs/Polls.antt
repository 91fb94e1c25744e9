-- What a poll's step leaves in a session's bytes: b before it, d after it; u and v: what is kept.
use Rattle.std.specs.Prelude.{ℕ, ◌≡◌, Bool, List}
use Rattle.wlan.specs.declared.AsyncEvent.{AsyncEvent}
use Rattle.slices.specs.Pick.{pick}
use Rattle.device.specs.declared.PollPoint.{PollPoint}
use Rattle.control.specs.declared.Before.{Before}
use Rattle.control.specs.declared.CallStep.{CallStep}
use Rattle.control.specs.Steps.{lay_before}
use Rattle.control.specs.Meaning.{list_at}
use Rattle.session_bytes.specs.declared.session.Session.{Session}
use Rattle.session_bytes.specs.Session.{session_in}
use Rattle.places.specs.Places.{Holds}
use Rattle.arriving.specs.Arriving.{KeptFor}
use Rattle.poll_now.specs.declared.PollNow.{PollNow}
use Rattle.poll_now.specs.PollNow.{NextIs}

-- a poll's first operation, by the good-packet mark
unfoldable pub first_point : Bool → PollPoint
first_point m = pick m (PollPoint.Status 999) PollPoint.Interrupt

-- e: the event that came
abbrev pub listed : List ℕ → AsyncEvent → CallStep → Session
listed b e s = record { st = s.st; list = list_at s.heard s.clear e (session_in b).list }

pub record Stepped (u v b d : List ℕ) (r : PollNow) (e : AsyncEvent) (s : CallStep) : Type 0 where
  pub next : NextIs r s.next
  pub held : Holds d (listed b e s)
  pub kept : KeptFor u v b d
  pub lay : s.lay ≡ lay_before Before.None
