-- An answer that leaves the session as it is.
use mathlib.Core.Path.{◌≡◌, refl}
use mathlib.Core.Bool.{true}
use mathlib.Core.List.{List}
use Prim.Native.Nat.{ℕ}
use Rattle.device.specs.declared.PollStep.{PollStep}
use Rattle.device.specs.Poll.{step}
use Rattle.session_bytes.specs.Session.{is_session, session_in}
use Rattle.poll_points.specs.declared.Polled.{Polled}
use Rattle.poll_points.specs.PollPoints.{next_of, Polls}

pub still : {b : List ℕ} {r : Polled} (f : PollStep) → is_session b ≡ true → step (session_in b).st.sdpcm (next_of r) ≡ f → Polls b b r f
still {b} {r} f h e = rw (← e) (record { next = refl; held = record { known = h; back = refl } })
