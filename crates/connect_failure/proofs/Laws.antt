-- What is read back is what was written.
use mathlib.Core.Path.{◌≡◌, refl}
use Rattle.wlan.specs.declared.WifiConnectFailure.{WifiConnectFailure}
use Rattle.connect_failure.specs.Parts.{failure_kind, failure_parts, kind_of, failure_of}
use Rattle.std.specs.Prelude.{Option, Some, None}

pub failure-back : (f : Option WifiConnectFailure) → failure_of (failure_parts f) ≡ f
unfolding failure_of failure_parts failure_kind kind_of
failure-back None = refl
failure-back (Some (WifiConnectFailure.AuthFailed s r)) = refl
failure-back (Some (WifiConnectFailure.AssocFailed s r)) = refl
failure-back (Some (WifiConnectFailure.SetSsidFailed s r)) = refl
failure-back (Some (WifiConnectFailure.PskFailed s r)) = refl
failure-back (Some (WifiConnectFailure.Pruned s r)) = refl
failure-back (Some (WifiConnectFailure.Deauthenticated r)) = refl
failure-back (Some WifiConnectFailure.Timeout) = refl
