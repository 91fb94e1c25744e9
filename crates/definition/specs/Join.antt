-- `wifi_connect`.
use Rattle.std.specs.Prelude.{ℕ, ◌+◌, Bool, true, false, ◌||◌, List, [], ◌∷◌, ltb, leb, eqb, length, Option, Some, None}
use Rattle.slices.specs.Pick.{pick}
use Rattle.wlan.specs.Outcome.{error_number}
use Rattle.wlan.specs.State.{with_link, set_link_state, set_auth}
use Rattle.wlan.specs.declared.WifiState.{WifiState}
use Rattle.wlan.specs.declared.WifiAuth.{WifiAuth}
use Rattle.wlan.specs.declared.DriverError.{DriverError}
use Rattle.wlan.specs.declared.Success.{Success}
use Rattle.wlan.specs.declared.State.{State}
use Rattle.definition.specs.Bus.{Bytes}
use Rattle.definition.specs.Prog.{World, with_state, Note, Fin, fine, failed, Prog, ret, stop, note, M, bind, ◌>>=◌, ◌>>◌, attempt, pause}
use Rattle.definition.specs.Request.{Request, iovar, set_word, set_key, sae_password, join_ssid}
use Rattle.definition.specs.Ioctl.{laid, do_ioctl, exchange}
use Rattle.definition.specs.Poll.{Result, giving, unfailed}
use Rattle.wlan.specs.declared.PendingIoctlResp.{PendingIoctlResp}
use Rattle.wlan.specs.declared.PendingBuf.{PendingBuf}

-- 'The tries that ignore an error ignore 1, 2, 3 and 7 only': what the Rust has as a `DevError`
unfoldable pub is_dev_error : DriverError → Bool
is_dev_error e = leb (error_number e) 3 || eqb (error_number e) 7

unfoldable pub ignoring : Fin (Unit {0}) → M (Unit {0})
ignoring (fine u) w = ret tt w
ignoring (failed e) w = pick (is_dev_error e) (ret tt w) (stop e w)

unfoldable pub tried : Request → M (Unit {0})
tried r = (λ w. attempt (exchange r w)) >>= ignoring

-- ---- what each auth asks for

pub record Security : Type 0 where
  -- SetWsec's value: the low byte of `as_u32`
  pub wsec : ℕ
  -- the supplicant's, 0 for an open network
  pub supplicant : ℕ
  -- is the passphrase set by SetWsecPmk, is it by `sae_password`
  pub pmk : Bool
  pub sae : Bool
  -- SetAuth's, `mfp`'s and SetWpaAuth's values
  pub auth_type : ℕ
  pub mfp : ℕ
  pub wpa_auth : ℕ

abbrev secured : ℕ → ℕ → Bool → Bool → ℕ → ℕ → ℕ → Security
secured wsec supplicant pmk sae auth_type mfp wpa_auth =
    record { wsec = wsec; supplicant = supplicant; pmk = pmk; sae = sae; auth_type = auth_type; mfp = mfp; wpa_auth = wpa_auth }

abbrev pub security : WifiAuth → Security
security WifiAuth.Open = secured 0 0 false false 0 0 0
security WifiAuth.WpaTkipPsk = secured 2 1 true false 0 0 0x4
security WifiAuth.Wpa2AesPsk = secured 4 1 true false 0 1 0x80
security WifiAuth.Wpa2MixedPsk = secured 6 1 true false 0 1 0x80
security WifiAuth.Wpa3SaeAesPsk = secured 4 1 false true 3 1 0x40000
security WifiAuth.Wpa3Wpa2AesPsk = secured 4 1 true true 3 1 0x40000

-- 'passphrase length (64; 128 for Wpa3SaeAesPsk; none for Open)'
unfoldable pub too_long : WifiAuth → ℕ → Bool
too_long WifiAuth.Open n = false
too_long WifiAuth.WpaTkipPsk n = ltb 64 n
too_long WifiAuth.Wpa2AesPsk n = ltb 64 n
too_long WifiAuth.Wpa2MixedPsk n = ltb 64 n
too_long WifiAuth.Wpa3SaeAesPsk n = ltb 128 n
too_long WifiAuth.Wpa3Wpa2AesPsk n = ltb 64 n

-- auth 0..5
unfoldable pub auth_of : ℕ → WifiAuth
auth_of n =
    pick (eqb n 0) WifiAuth.Open
    (pick (eqb n 1) WifiAuth.WpaTkipPsk
    (pick (eqb n 2) WifiAuth.Wpa2AesPsk
    (pick (eqb n 3) WifiAuth.Wpa2MixedPsk (pick (eqb n 4) WifiAuth.Wpa3SaeAesPsk WifiAuth.Wpa3Wpa2AesPsk))))

-- ---- the passphrase

-- 'A frame waits where take would not be refused 5, a reply where a stored Control is unused.'
unfoldable pub frame_waits : Option PendingBuf → Bool
frame_waits None = false
frame_waits (Some f) = true

unfoldable pub reply_waits : Option PendingIoctlResp → Bool
reply_waits None = false
reply_waits (Some r) = true

unfoldable pub key_laid : Request → M (Unit {0})
key_laid r w = note (Note.key_laid (frame_waits w.st.pending.rx) (reply_waits w.st.pending.ioctl_resp)) (ret tt (laid r w))

-- 2 ms before the key request, after its bytes are laid
unfoldable pub pmk_set : Bool → Bytes → M (Unit {0})
pmk_set false p w = ret tt w
pmk_set true p w = (key_laid (set_key p) >> (pause 2000000 >> do_ioctl (set_key p))) w

-- 2 ms before `sae_password`, before its bytes are laid
unfoldable pub sae_set : Bool → Bytes → M (Unit {0})
sae_set false p w = ret tt w
sae_set true p w = (pause 2000000 >> (key_laid (sae_password p) >> do_ioctl (sae_password p))) w

-- ---- the call

abbrev pub linked : WifiState → World → World
linked s w = with_state w (with_link w.st (set_link_state w.st.link s))

abbrev pub connecting : WifiAuth → World → World
connecting a w = with_state w (with_link w.st (set_link_state (set_auth w.st.link a) WifiState.Connecting))

-- `set_ssid`: 'SSID length (32) last'
unfoldable pub ssid_sent : Bytes → M (Unit {0})
ssid_sent s w = pick (ltb 32 (length s)) (stop DriverError.InvalidArg w) (exchange (join_ssid s) w)

-- an error of the last request leaves Down
unfoldable pub down_on_error : Fin (Unit {0}) → M Result
down_on_error (fine u) w = giving Success.Done w
down_on_error (failed e) w = pick (is_dev_error e) (stop e (linked WifiState.Down w)) (stop e w)

unfoldable pub length_tested : WifiAuth → ℕ → M (Unit {0})
length_tested a n w = pick (too_long a n) (stop DriverError.InvalidArg w) (ret tt w)

-- 'Join tests passphrase length after its first variable, SSID length last.'
unfoldable pub joined : WifiAuth → Bytes → Bytes → M Result
joined a ssid passphrase =
    let s = security a in
    exchange (iovar "ampdu_ba_wsize" (8 ∷ []))
    >> (length_tested a (length passphrase)
    >> (exchange (set_word 134 s.wsec 0)
    >> (exchange (iovar "bsscfg:sup_wpa" (0 ∷ s.supplicant ∷ []))
    >> (exchange (iovar "bsscfg:sup_wpa2_eapver" (0 ∷ 0xffffffff ∷ []))
    >> (tried (iovar "bsscfg:sup_wpa_tmo" (0 ∷ 5000 ∷ []))
    >> (pmk_set s.pmk passphrase
    >> (sae_set s.sae passphrase
    >> (exchange (set_word 20 1 0)
    >> (exchange (set_word 22 s.auth_type 0)
    >> (exchange (iovar "mfp" (s.mfp ∷ []))
    >> (exchange (set_word 165 s.wpa_auth 0)
    >> ((λ w. attempt (ssid_sent ssid (connecting a w)))
    >>= down_on_error))))))))))))

unfoldable pub if_down : M Result → WifiState → M Result
if_down m WifiState.Down w = m w
if_down m WifiState.Connecting w = stop DriverError.Busy w
if_down m WifiState.Connected w = stop DriverError.Busy w
if_down m WifiState.Disconnecting w = stop DriverError.Busy w

-- bad arguments come before 4; the failure is cleared before the first operation
unfoldable pub join : ℕ → Bytes → Bytes → M Result
join auth ssid passphrase w =
    pick (ltb auth 6) (if_down (λ v. joined (auth_of auth) ssid passphrase (unfailed v)) w.st.link.state w) (stop DriverError.InvalidArg w)
