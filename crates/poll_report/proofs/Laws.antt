-- What a poll reports; a step that leaves the list, and one after a change of the state.
use Prim.Native.Nat.{ℕ}
use mathlib.Core.Path.{◌≡◌, refl, ap}
use mathlib.Core.Bool.{Bool, true}
use mathlib.Core.List.{List}
use Rattle.wlan.specs.declared.State.{State}
use Rattle.wlan.specs.declared.WifiState.{WifiState}
use Rattle.wlan.specs.declared.WlanPollResult.{WlanPollResult}
use Rattle.control.specs.declared.Before.{Before}
use Rattle.control.specs.declared.CallNext.{CallNext}
use Rattle.control.specs.declared.CallStep.{CallStep}
use Rattle.control.specs.declared.Ending.{Ending}
use Rattle.control.specs.Steps.{step, lay_before}
use Rattle.control.specs.Poll.{down_report, report_by}
use Rattle.session_bytes.specs.declared.session.Session.{Session}
use Rattle.session_bytes.specs.Session.{is_session, session_in, with_state}
use Rattle.places.specs.Places.{Holds}
use Rattle.run_end.specs.RunEnd.{report_of}
use Rattle.poll_report.specs.PollReport.{reportable, Gives, Quiet}

pub report-is : (s : State) (w : WifiState) → down_report s (reportable w s.link.connect_failure) ≡ report_by s w
unfolding down_report report_by reportable
report-is s WifiState.Down = refl
report-is s WifiState.Connecting = refl
report-is s WifiState.Connected = refl
report-is s WifiState.Disconnecting = refl

pub polled-gives : (p : WlanPollResult) → Gives (CallNext.Ended (Ending.Polled p)) (report_of p)
unfolding Gives
polled-gives p = refl

pub still : {N : CallNext → Type 0} {b : List ℕ} {n : CallNext} {h : Bool} {s : CallStep} → is_session b ≡ true → N n → s ≡ step (session_in b).st h (lay_before Before.None) n → Quiet N b b h s
still k n e = rw e (record { next = n; held = record { known = k; back = refl }; heard = refl; clear = refl; lay = refl })

pub changed : {N : CallNext → Type 0} {b d : List ℕ} {t : State} {n : CallNext} {h : Bool} {s : CallStep} → Holds d (with_state b t) → N n → s ≡ step t h (lay_before Before.None) n → Quiet N b d h s
changed k n e = rw e (record { next = n; held = k; heard = refl; clear = refl; lay = refl })

pub quiet-moved : {b c d : List ℕ} {t : State} {N : CallNext → Type 0} {h : Bool} (f : State → CallStep) → Holds c (with_state b t) → Quiet N c d h (f (session_in c).st) → Quiet N b d h (f t)
quiet-moved {b} {c} {d} {t} {N} {h} f k q =
    let e : (session_in c).st ≡ t = ap (λ (s : Session). s.st) k.back in
    let g : Quiet N c d h (f t) = rw e at q in
    record { next = g.next; held = record { known = g.held.known; back = rw k.back at g.held.back }; heard = g.heard; clear = g.clear; lay = g.lay }
