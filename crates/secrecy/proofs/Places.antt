-- Only join's own key packets say that they have a passphrase: every other written packet's place is nowhere.
pub mod Tree
pub mod Device
pub mod Exchange
pub mod Poll
pub mod Run
pub mod Calls
use mathlib.Core.Path.{◌≡◌, refl}
use mathlib.Core.List.{List}
use mathlib.Core.Logic.{◌⊎◌, inl, inr}
use Prim.Native.Nat.{ℕ}
use Rattle.definition.specs.Bus.{Place, nowhere}
use Rattle.definition.specs.Prog.{World}
use Rattle.definition.specs.Request.{set_key, sae_password}
use Rattle.definition.specs.Calls.{Call, call}
use Rattle.definition.specs.Run.{run_of}
use Rattle.secrecy.proofs.Places.Tree.{PlacesAre, Writes}
use Rattle.secrecy.proofs.Places.Run.{run_of-w}
use Rattle.secrecy.proofs.Places.Calls.{join-w, other-w}

-- the places that a call's packets may say
abbrev pub MaySay : Call → Place → Type 0
MaySay (Call.wifi_init c) x = x ≡ nowhere
MaySay Call.wifi_scan x = x ≡ nowhere
MaySay (Call.wifi_connect auth ssid p) x = (x ≡ nowhere) ⊎ ((x ≡ (set_key p).secret) ⊎ (x ≡ (sae_password p).secret))
MaySay Call.wifi_disconnect x = x ≡ nowhere
MaySay Call.wifi_abort_connect x = x ≡ nowhere
MaySay Call.wifi_poll x = x ≡ nowhere
MaySay (Call.send_data i frame) x = x ≡ nowhere
MaySay (Call.get_rx_buf m) x = x ≡ nowhere
MaySay (Call.gpio_set pin level) x = x ≡ nowhere
MaySay Call.get_mac_addr x = x ≡ nowhere
MaySay (Call.get_ioctl cmd i) x = x ≡ nowhere
MaySay (Call.set_ioctl cmd value i) x = x ≡ nowhere
MaySay (Call.write_iovar i name bytes) x = x ≡ nowhere
MaySay Call.up x = x ≡ nowhere

call-w : (c : Call) (w : World) → Writes (MaySay c) (call c w)
unfolding call
call-w (Call.wifi_init c) w = other-w (MaySay (Call.wifi_init c)) refl (Call.wifi_init c) tt w
call-w Call.wifi_scan w = other-w (MaySay Call.wifi_scan) refl Call.wifi_scan tt w
call-w (Call.wifi_connect auth ssid p) w = join-w (MaySay (Call.wifi_connect auth ssid p)) (inl refl) auth ssid p (inr (inl refl)) (inr (inr refl)) w
call-w Call.wifi_disconnect w = other-w (MaySay Call.wifi_disconnect) refl Call.wifi_disconnect tt w
call-w Call.wifi_abort_connect w = other-w (MaySay Call.wifi_abort_connect) refl Call.wifi_abort_connect tt w
call-w Call.wifi_poll w = other-w (MaySay Call.wifi_poll) refl Call.wifi_poll tt w
call-w (Call.send_data i frame) w = other-w (MaySay (Call.send_data i frame)) refl (Call.send_data i frame) tt w
call-w (Call.get_rx_buf m) w = other-w (MaySay (Call.get_rx_buf m)) refl (Call.get_rx_buf m) tt w
call-w (Call.gpio_set pin level) w = other-w (MaySay (Call.gpio_set pin level)) refl (Call.gpio_set pin level) tt w
call-w Call.get_mac_addr w = other-w (MaySay Call.get_mac_addr) refl Call.get_mac_addr tt w
call-w (Call.get_ioctl cmd i) w = other-w (MaySay (Call.get_ioctl cmd i)) refl (Call.get_ioctl cmd i) tt w
call-w (Call.set_ioctl cmd value i) w = other-w (MaySay (Call.set_ioctl cmd value i)) refl (Call.set_ioctl cmd value i) tt w
call-w (Call.write_iovar i name bytes) w = other-w (MaySay (Call.write_iovar i name bytes)) refl (Call.write_iovar i name bytes) tt w
call-w Call.up w = other-w (MaySay Call.up) refl Call.up tt w

-- every packet that a call writes, on any recording
pub places : (c : Call) (w : World) (recording : List ℕ) (room : ℕ) → PlacesAre (MaySay c) (run_of c w recording room).ops
places c w recording room = run_of-w (MaySay c) c w recording room (call-w c w)
