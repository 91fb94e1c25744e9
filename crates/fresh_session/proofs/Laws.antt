-- The bytes of a fresh session.
use Prim.Native.Nat.{ℕ, zero, suc}
use mathlib.Core.Path.{◌≡◌, refl}
use mathlib.Core.Bool.{true}
use mathlib.Core.List.{List}
use lib.ListN.{length, replicate, set, length-replicate}
use Rattle.slices.specs.Le.{signed16}
use Rattle.slices.specs.Over.{over}
use Rattle.slices.proofs.Over.{over-whole}
use Rattle.wlan.specs.declared.ScanRecord.{ScanRecord}
use Rattle.wlan.specs.State.{fresh}
use Rattle.definition.specs.Player.{empty_list, state_number}
use Rattle.definition.specs.Join.{auth_of}
use Rattle.state_bytes.specs.Numbers.{bit, wifi_of, auth_number, unsigned16}
use Rattle.connect_failure.specs.Parts.{failure_parts, failure_of}
use Rattle.state_bytes.specs.Parts.{reply_parts, reply_of, frame_parts, frame_of, tick_parts, tick_of}
use Rattle.state_bytes.specs.StateBytes.{front_bytes, pending_bytes, link_bytes, state_bytes, sdpcm_in, reply_in, frame_in, pending_in, failure_in, tick_in, link_in, marks_in, state_in}
use Rattle.session_bytes.specs.ListBytes.{tail_bytes, record_bytes, records_bytes, list_bytes, list_in, EachWhole}
use Rattle.session_bytes.specs.Session.{session_bytes, session_in, is_session}
use Rattle.session_bytes.proofs.Laws.{record-whole, list-size, list_back, session-back, session-size, session-known}
use Rattle.fresh_session.specs.Fresh.{fresh_session}

-- zeros, but for the credit
zeros-are : set (replicate 1393 0) 1 1 ≡ session_bytes fresh_session
unfolding session_bytes state_bytes front_bytes pending_bytes link_bytes list_bytes records_bytes record_bytes tail_bytes state_number bit reply_parts frame_parts auth_number failure_parts tick_parts unsigned16
zeros-are = refl

pub fresh-put : (s : List ℕ) {d e : List ℕ} → length s ≡ 1393 → d ≡ over s 0 (replicate 1393 0) → e ≡ set d 1 1 → e ≡ session_bytes fresh_session
fresh-put s h ed ee = rw (ee, ed, over-whole s (replicate 1393 0) (rw (length-replicate {A = ℕ} 1393 0, h) refl)) zeros-are

abbrev none : ScanRecord
none = record { ssid = replicate 32 0; bssid = replicate 6 0; ssid_len = 0; channel = 0; rssi = lib.IntN.pos 0 }

each : (n : ℕ) → EachWhole (replicate n none)
unfolding tail_bytes unsigned16 signed16
each zero = tt
each (suc n) = (record-whole none refl refl refl, each n)

list-there : list_in (list_bytes empty_list) ≡ empty_list
list-there = list_back empty_list refl (each 32) refl

state-there : state_in (state_bytes fresh) ≡ fresh
unfolding state_bytes front_bytes pending_bytes link_bytes state_number bit reply_parts frame_parts auth_number failure_parts tick_parts state_in sdpcm_in marks_in pending_in reply_in frame_in link_in failure_in tick_in reply_of frame_of failure_of tick_of wifi_of auth_of
state-there = refl

pub fresh-back : session_in (session_bytes fresh_session) ≡ fresh_session
fresh-back = session-back fresh_session state-there list-there

pub fresh-known : is_session (session_bytes fresh_session) ≡ true
fresh-known = session-known fresh_session (session-size fresh_session (list-size empty_list refl (each 32))) fresh-back
