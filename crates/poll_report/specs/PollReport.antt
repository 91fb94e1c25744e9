-- A poll's value at its end, and what its step leaves in a session's bytes: b before it, d after it.
use Rattle.std.specs.Prelude.{ℕ, ◌≡◌, Bool, false, List, Option, None}
use Rattle.wlan.specs.declared.WifiState.{WifiState}
use Rattle.control.specs.declared.Before.{Before}
use Rattle.control.specs.declared.CallNext.{CallNext}
use Rattle.control.specs.declared.CallStep.{CallStep}
use Rattle.control.specs.declared.Ending.{Ending}
use Rattle.control.specs.Steps.{lay_before}
use Rattle.session_bytes.specs.Session.{with_state}
use Rattle.places.specs.Places.{Holds}
use Rattle.run_end.specs.declared.PollReport.{PollReport}
use Rattle.run_end.specs.RunEnd.{report_of}
use Rattle.wlan.specs.declared.WifiConnectFailure.{WifiConnectFailure}

-- the failed join that is to be reported
unfoldable pub reportable : WifiState → Option WifiConnectFailure → Option WifiConnectFailure
reportable WifiState.Down f = f
reportable WifiState.Connecting f = None
reportable WifiState.Connected f = None
reportable WifiState.Disconnecting f = None

-- the poll is over, and reports v
unfoldable pub Gives : CallNext → PollReport → Type 0
Gives (CallNext.Ask p) v = ⊥
Gives (CallNext.Ended Ending.Done) v = ⊥
Gives (CallNext.Ended Ending.Mac) v = ⊥
Gives (CallNext.Ended Ending.Word) v = ⊥
Gives (CallNext.Ended (Ending.Polled p)) v = report_of p ≡ v
Gives (CallNext.Refused e) v = ⊥

-- a step that lays nothing and leaves the list, but for an event that it heard before; what follows is as N says
pub record Quiet (N : CallNext → Type 0) (b d : List ℕ) (h : Bool) (s : CallStep) : Type 0 where
  pub next : N s.next
  pub held : Holds d (with_state b s.st)
  pub heard : s.heard ≡ h
  pub clear : s.clear ≡ false
  pub lay : s.lay ≡ lay_before Before.None

abbrev pub Reports : List ℕ → List ℕ → PollReport → CallStep → Type 0
Reports b d v s = Quiet (λ n. Gives n v) b d false s
