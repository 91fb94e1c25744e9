-- `handle_async_event`: an event's fields, and what it does to the connection and to the scan.
use Rattle.std.specs.Prelude.{ℕ, ◌+◌, ◌-◌, ◌%◌, min, Bool, true, false, ◌||◌, not, List, [], ◌∷◌, ◌++◌, ltb, eqb, length, take, drop, get_or, replicate, Option, Some, None}
use Rattle.slices.specs.Pick.{pick}
use Rattle.slices.specs.Le.{be16_at, be32_at, le16_at, signed16}
use Rattle.wlan.specs.State.{with_scan, with_link, set_link_state, set_failure, set_tick}
use Rattle.wlan.specs.declared.WifiState.{WifiState}
use Rattle.wlan.specs.declared.WifiAuth.{WifiAuth}
use Rattle.wlan.specs.declared.WifiConnectFailure.{WifiConnectFailure}
use Rattle.wlan.specs.declared.Link.{Link}
use Rattle.wlan.specs.declared.ScanRecord.{ScanRecord}
use Rattle.wlan.specs.declared.ScanMarks.{ScanMarks}
use Rattle.wlan.specs.declared.ScanList.{ScanList}
use Rattle.wlan.specs.declared.AsyncEvent.{AsyncEvent}
use Rattle.definition.specs.Bus.{Bytes}
use Rattle.definition.specs.Prog.{World, world}
use Rattle.definition.specs.Scan.{heard}

-- ---- the event reader

-- 'The event starts 32 in, 140 bytes, those past the declared length zero.' part: the packet from its payload on
unfoldable pub event_bytes : Bytes → ℕ → Bytes
event_bytes part len = take 140 (drop 32 (take len part) ++ replicate 140 0)

-- 'BSSID 68..73, SSID length 78 (at most 32), SSID 79, channel le 132 (low byte kept), signed le RSSI 138. A scan record holds
-- the 32 SSID bytes, zero past the length.'
unfoldable pub scan_result_of : Bytes → ScanRecord
scan_result_of e =
    let n = min (get_or e 78 0) 32 in
    record {
      ssid = take n (drop 79 e) ++ replicate (32 - n) 0;
      bssid = take 6 (drop 68 e);
      ssid_len = n;
      channel = get_or e 132 0;
      rssi = signed16 (le16_at e 138);
    }

-- 'be flags 2, type 4, status 8, reason 12'
unfoldable pub event_of : Bytes → ℕ → AsyncEvent
event_of part len =
    let e = event_bytes part len in
    record {
      flags = be16_at e 2;
      event_type = be32_at e 4;
      status = be32_at e 8;
      reason = be32_at e 12;
      scan_result = scan_result_of e;
    }

-- ---- the connection

-- 'the first connect failure is kept'
unfoldable pub first_failure : Option WifiConnectFailure → WifiConnectFailure → Option WifiConnectFailure
first_failure None f = Some f
first_failure (Some g) f = Some g

-- `set_connect_failure`
unfoldable pub failing : Link → WifiConnectFailure → Link
failing l f = set_link_state (set_failure l (first_failure l.connect_failure f)) WifiState.Down

-- LINK, not up
unfoldable pub link_lost : Link → WifiState → Link
link_lost l WifiState.Down = l
link_lost l WifiState.Connecting = l
link_lost l WifiState.Connected = set_link_state l WifiState.Down
link_lost l WifiState.Disconnecting = set_link_state l WifiState.Down

-- down at last: no failure to report, no tick to wait from
unfoldable pub released : Link → Link
released l = set_tick (set_failure (set_link_state l WifiState.Down) None) None

-- DEAUTH, DEAUTH_IND, DISASSOC, DISASSOC_IND
unfoldable pub deauthenticated : Link → ℕ → WifiState → Link
deauthenticated l reason WifiState.Down = l
deauthenticated l reason WifiState.Connecting = set_failure l (first_failure l.connect_failure (WifiConnectFailure.Deauthenticated reason))
deauthenticated l reason WifiState.Connected = released l
deauthenticated l reason WifiState.Disconnecting = released l

-- SET_SSID, accepted
unfoldable pub ssid_set : Link → WifiAuth → Link
ssid_set l WifiAuth.Open = set_link_state l WifiState.Connected
ssid_set l WifiAuth.WpaTkipPsk = l
ssid_set l WifiAuth.Wpa2AesPsk = l
ssid_set l WifiAuth.Wpa2MixedPsk = l
ssid_set l WifiAuth.Wpa3SaeAesPsk = l
ssid_set l WifiAuth.Wpa3Wpa2AesPsk = l

-- PSK_SUP: 6 keyed, 7 timed out; reason 14 a deauthentication
unfoldable pub supplicant : Link → ℕ → ℕ → Link
supplicant l status reason =
    pick (eqb status 6) (set_link_state (set_failure l None) WifiState.Connected)
    (pick (eqb status 7) (failing l WifiConnectFailure.Timeout)
    (pick (eqb reason 14) (failing l (WifiConnectFailure.PskFailed status reason)) l))

-- a status other than 0 is a failure
abbrev pub unless0 : Link → ℕ → WifiConnectFailure → Link → Link
unless0 l status f good = pick (eqb status 0) good (failing l f)

-- 'States change as the file's `match` says.' 0 SET_SSID, 3 AUTH, 5 DEAUTH, 6 DEAUTH_IND, 7 ASSOC, 11 DISASSOC, 12 DISASSOC_IND,
-- 16 LINK, 23 PRUNE, 46 PSK_SUP
unfoldable pub link_after : AsyncEvent → Link → Link
link_after e l =
    let t = e.event_type in
    let s = e.status in
    let r = e.reason in
    pick (eqb t 0) (unless0 l s (WifiConnectFailure.SetSsidFailed s r) (ssid_set l l.current_auth))
    (pick (eqb t 3) (unless0 l s (WifiConnectFailure.AuthFailed s r) l)
    (pick (eqb t 7) (unless0 l s (WifiConnectFailure.AssocFailed s r) l)
    (pick (eqb t 16) (pick (eqb (e.flags % 2) 0) (link_lost l l.state) l)
    (pick (eqb t 23) (unless0 l s (WifiConnectFailure.Pruned s r) l)
    (pick (eqb t 46) (supplicant l s r)
    (pick (eqb t 5 || (eqb t 6 || (eqb t 11 || eqb t 12))) (deauthenticated l r l.state) l))))))

-- ---- the scan: 69 ESCAN_RESULT

-- 0: the scan is done; 8: it goes on. 'Any scan status other than 0 and 8 now ends a scan too: it clears the progress mark and leaves the
-- done mark as it was.'
unfoldable pub scan_end : ℕ → ScanMarks → ScanMarks
scan_end status m =
    pick (eqb status 0) (record { scan_done = true; scan_in_progress = false })
    (pick (eqb status 8) m (record { scan_done = m.scan_done; scan_in_progress = false }))

unfoldable pub scan_after : AsyncEvent → ScanMarks → ScanMarks
scan_after e m = pick (eqb e.event_type 69) (scan_end e.status m) m

-- status 8: a network was heard
unfoldable pub list_after : AsyncEvent → ScanList → ScanList
list_after e l = pick (eqb e.event_type 69) (pick (eqb e.status 8) (heard l e.scan_result) l) l

-- ---- the event's effect

abbrev pub after : AsyncEvent → World → World
after e w =
    world (with_link (with_scan w.st (scan_after e w.st.scan)) (link_after e w.st.link)) w.buf (list_after e w.list)

-- 'Below 48 bytes ignored.'
unfoldable pub handled : ℕ → ℕ → World → World
handled offset len w = pick (ltb len 48) w (after (event_of (drop offset w.buf) len) w)
