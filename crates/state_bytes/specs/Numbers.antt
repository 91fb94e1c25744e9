-- Numbers for what has a few values, and signed numbers as unsigned ones.
use Rattle.std.specs.Prelude.{ℕ, ◌-◌, Bool, true, false, eqb, ℤ, pos, negsuc}
use Rattle.slices.specs.Pick.{pick}
use Rattle.wlan.specs.declared.WifiState.{WifiState}
use Rattle.wlan.specs.declared.WifiAuth.{WifiAuth}

unfoldable pub bit : Bool → ℕ
bit true = 1
bit false = 0

-- the state that has this number in document 01
unfoldable pub wifi_of : ℕ → WifiState
wifi_of n = pick (eqb n 0) WifiState.Down (pick (eqb n 1) WifiState.Connecting (pick (eqb n 2) WifiState.Connected WifiState.Disconnecting))

-- join's numbers
unfoldable pub auth_number : WifiAuth → ℕ
auth_number WifiAuth.Open = 0
auth_number WifiAuth.WpaTkipPsk = 1
auth_number WifiAuth.Wpa2AesPsk = 2
auth_number WifiAuth.Wpa2MixedPsk = 3
auth_number WifiAuth.Wpa3SaeAesPsk = 4
auth_number WifiAuth.Wpa3Wpa2AesPsk = 5

-- two's complement
unfoldable pub unsigned16 : ℤ → ℕ
unsigned16 (pos n) = n
unsigned16 (negsuc n) = 65535 - n

unfoldable pub unsigned32 : ℤ → ℕ
unsigned32 (pos n) = n
unsigned32 (negsuc n) = 4294967295 - n
