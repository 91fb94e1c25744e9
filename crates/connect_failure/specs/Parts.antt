-- A failed join as numbers: a tag, 0 for none, and fields, 0 where there are none.
use Rattle.std.specs.Prelude.{ℕ, eqb, Option, Some, None}
use Rattle.slices.specs.Pick.{pick}
use Rattle.wlan.specs.declared.WifiConnectFailure.{WifiConnectFailure}
use Rattle.connect_failure.specs.declared.FailureParts.{FailureParts}

abbrev pub failed : ℕ → ℕ → ℕ → FailureParts
failed t s r = record { tag = t; status = s; reason = r }

unfoldable pub failure_kind : WifiConnectFailure → FailureParts
failure_kind (WifiConnectFailure.AuthFailed s r) = failed 1 s r
failure_kind (WifiConnectFailure.AssocFailed s r) = failed 2 s r
failure_kind (WifiConnectFailure.SetSsidFailed s r) = failed 3 s r
failure_kind (WifiConnectFailure.PskFailed s r) = failed 4 s r
failure_kind (WifiConnectFailure.Pruned s r) = failed 5 s r
failure_kind (WifiConnectFailure.Deauthenticated r) = failed 6 0 r
failure_kind WifiConnectFailure.Timeout = failed 7 0 0

unfoldable pub failure_parts : Option WifiConnectFailure → FailureParts
failure_parts None = failed 0 0 0
failure_parts (Some f) = failure_kind f

unfoldable pub kind_of : ℕ → ℕ → ℕ → WifiConnectFailure
kind_of t s r =
    pick (eqb t 1) (WifiConnectFailure.AuthFailed s r)
    (pick (eqb t 2) (WifiConnectFailure.AssocFailed s r)
    (pick (eqb t 3) (WifiConnectFailure.SetSsidFailed s r)
    (pick (eqb t 4) (WifiConnectFailure.PskFailed s r)
    (pick (eqb t 5) (WifiConnectFailure.Pruned s r)
    (pick (eqb t 6) (WifiConnectFailure.Deauthenticated r) WifiConnectFailure.Timeout)))))

unfoldable pub failure_of : FailureParts → Option WifiConnectFailure
failure_of p = pick (eqb p.tag 0) None (Some (kind_of p.tag p.status p.reason))
