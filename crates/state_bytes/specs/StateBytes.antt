-- The state's bytes, and the state that bytes hold.
use Rattle.std.specs.Prelude.{ℕ, ◌+◌, ◌*◌, ◌/◌, ◌%◌, List, [], ◌∷◌, ◌++◌, eqb, get_or, take, drop}
use Rattle.slices.specs.Le.{le16, le32, le16_at, le32_at}
use Rattle.wlan.specs.declared.Link.{Link}
use Rattle.wlan.specs.declared.Pending.{Pending}
use Rattle.wlan.specs.declared.ScanMarks.{ScanMarks}
use Rattle.wlan.specs.declared.Sdpcm.{Sdpcm}
use Rattle.wlan.specs.declared.State.{State}
use Rattle.definition.specs.Player.{state_number}
use Rattle.definition.specs.Join.{auth_of}
use Rattle.connect_failure.specs.declared.FailureParts.{FailureParts}
use Rattle.connect_failure.specs.Parts.{failure_parts, failure_of}
use Rattle.state_bytes.specs.declared.parts.ReplyParts.{ReplyParts}
use Rattle.state_bytes.specs.declared.parts.FrameParts.{FrameParts}
use Rattle.state_bytes.specs.declared.parts.TickParts.{TickParts}
use Rattle.state_bytes.specs.Numbers.{bit, wifi_of, auth_number}
use Rattle.state_bytes.specs.Parts.{reply_parts, reply_of, frame_parts, frame_of, tick_parts, tick_of}

-- ---- bytes

abbrev pub le64 : ℕ → List ℕ
le64 n =
    n % 256 ∷ n / 256 % 256 ∷ n / 65536 % 256 ∷ n / 16777216 % 256
    ∷ n / 4294967296 % 256 ∷ n / 1099511627776 % 256 ∷ n / 281474976710656 % 256 ∷ n / 72057594037927936 % 256 ∷ []

-- numbers and marks
unfoldable pub front_bytes : Sdpcm → ScanMarks → List ℕ
front_bytes s m =
    s.packet_tx_seq ∷ s.last_bus_data_credit ∷ s.wlan_flow_control ∷ s.requested_ioctl_id ∷ bit s.had_successful_packet
    ∷ bit m.scan_done ∷ bit m.scan_in_progress ∷ []

abbrev pub reply_bytes : ReplyParts → List ℕ
reply_bytes p = p.tag ∷ (le16 p.offset ++ (le16 p.len ++ le32 p.status))

abbrev pub frame_bytes : FrameParts → List ℕ
frame_bytes p = p.tag ∷ (le16 p.offset ++ le16 p.len)

unfoldable pub pending_bytes : Pending → List ℕ
pending_bytes p = reply_bytes (reply_parts p.ioctl_resp) ++ frame_bytes (frame_parts p.rx)

abbrev pub failure_bytes : FailureParts → List ℕ
failure_bytes p = p.tag ∷ (le32 p.status ++ le32 p.reason)

abbrev pub tick_bytes : TickParts → List ℕ
tick_bytes p = p.tag ∷ le64 p.tick

unfoldable pub link_bytes : Link → List ℕ
link_bytes l =
    state_number l.state ∷ auth_number l.current_auth
    ∷ (failure_bytes (failure_parts l.connect_failure) ++ tick_bytes (tick_parts l.disconnect_started_tick))

-- 41 bytes
unfoldable pub state_bytes : State → List ℕ
state_bytes s = front_bytes s.sdpcm s.scan ++ (pending_bytes s.pending ++ link_bytes s.link)

-- ---- and back

unfoldable pub sdpcm_in : List ℕ → Sdpcm
sdpcm_in b =
    record {
      packet_tx_seq = get_or b 0 0;
      last_bus_data_credit = get_or b 1 0;
      wlan_flow_control = get_or b 2 0;
      requested_ioctl_id = get_or b 3 0;
      had_successful_packet = eqb (get_or b 4 0) 1;
    }

unfoldable pub reply_in : List ℕ → ReplyParts
reply_in b = record { tag = get_or b 0 0; offset = le16_at b 1; len = le16_at b 3; status = le32_at b 5 }

unfoldable pub frame_in : List ℕ → FrameParts
frame_in b = record { tag = get_or b 9 0; offset = le16_at b 10; len = le16_at b 12 }

unfoldable pub pending_in : List ℕ → Pending
pending_in b = record { ioctl_resp = reply_of (reply_in b); rx = frame_of (frame_in b) }

unfoldable pub failure_in : List ℕ → FailureParts
failure_in b = record { tag = get_or b 2 0; status = le32_at b 3; reason = le32_at b 7 }

unfoldable pub tick_in : List ℕ → TickParts
tick_in b = record { tag = get_or b 11 0; tick = le32_at b 12 + 4294967296 * le32_at b 16 }

unfoldable pub link_in : List ℕ → Link
link_in b =
    record {
      state = wifi_of (get_or b 0 0);
      connect_failure = failure_of (failure_in b);
      current_auth = auth_of (get_or b 1 0);
      disconnect_started_tick = tick_of (tick_in b);
    }

unfoldable pub marks_in : List ℕ → ScanMarks
marks_in b = record { scan_done = eqb (get_or b 5 0) 1; scan_in_progress = eqb (get_or b 6 0) 1 }

unfoldable pub state_in : List ℕ → State
state_in b =
    record {
      sdpcm = sdpcm_in (take 7 b);
      pending = pending_in (take 14 (drop 7 b));
      scan = marks_in (take 7 b);
      link = link_in (take 20 (drop 21 b));
    }
