-- The state's fields, each changed by one definition. Nothing else writes a state out field by field.
use Rattle.std.specs.Prelude.{ℕ, Bool, true, false, Option, None}
use Rattle.wlan.specs.declared.WifiState.{WifiState}
use Rattle.wlan.specs.declared.WifiState.TheVariants as wifi
use Rattle.wlan.specs.declared.WifiAuth.{WifiAuth}
use Rattle.wlan.specs.declared.WifiAuth.TheVariants as auth
use Rattle.wlan.specs.declared.Link.{Link}
use Rattle.wlan.specs.declared.Pending.{Pending}
use Rattle.wlan.specs.declared.ScanMarks.{ScanMarks}
use Rattle.wlan.specs.declared.Sdpcm.{Sdpcm}
use Rattle.wlan.specs.declared.State.{State}
use Rattle.wlan.specs.declared.WifiConnectFailure.{WifiConnectFailure}
use Rattle.wlan.specs.declared.PendingIoctlResp.{PendingIoctlResp}
use Rattle.wlan.specs.declared.PendingBuf.{PendingBuf}

-- a fresh state is what `new` gives
abbrev pub fresh : State
fresh =
    record {
      sdpcm =
          record {
            packet_tx_seq = 0;
            last_bus_data_credit = 1;
            wlan_flow_control = 0;
            requested_ioctl_id = 0;
            had_successful_packet = false;
          };
      pending = record { ioctl_resp = None; rx = None };
      scan = record { scan_done = false; scan_in_progress = false };
      link =
          record {
            state = wifi.Down;
            connect_failure = None;
            current_auth = auth.Open;
            disconnect_started_tick = None;
          };
    }

-- one group of a state

abbrev pub with_sdpcm : State → Sdpcm → State
with_sdpcm s x = record { sdpcm = x; pending = s.pending; scan = s.scan; link = s.link }

abbrev pub with_pending : State → Pending → State
with_pending s x = record { sdpcm = s.sdpcm; pending = x; scan = s.scan; link = s.link }

abbrev pub with_scan : State → ScanMarks → State
with_scan s x = record { sdpcm = s.sdpcm; pending = s.pending; scan = x; link = s.link }

abbrev pub with_link : State → Link → State
with_link s x = record { sdpcm = s.sdpcm; pending = s.pending; scan = s.scan; link = x }

-- one field of a group

abbrev pub sdpcm_of : ℕ → ℕ → ℕ → ℕ → Bool → Sdpcm
sdpcm_of seq credit flow id mark =
    record {
      packet_tx_seq = seq;
      last_bus_data_credit = credit;
      wlan_flow_control = flow;
      requested_ioctl_id = id;
      had_successful_packet = mark;
    }

abbrev pub set_seq : Sdpcm → ℕ → Sdpcm
set_seq s n = sdpcm_of n s.last_bus_data_credit s.wlan_flow_control s.requested_ioctl_id s.had_successful_packet

abbrev pub set_credit : Sdpcm → ℕ → Sdpcm
set_credit s n = sdpcm_of s.packet_tx_seq n s.wlan_flow_control s.requested_ioctl_id s.had_successful_packet

abbrev pub set_flow : Sdpcm → ℕ → Sdpcm
set_flow s n = sdpcm_of s.packet_tx_seq s.last_bus_data_credit n s.requested_ioctl_id s.had_successful_packet

abbrev pub set_id : Sdpcm → ℕ → Sdpcm
set_id s n = sdpcm_of s.packet_tx_seq s.last_bus_data_credit s.wlan_flow_control n s.had_successful_packet

abbrev pub set_mark : Sdpcm → Bool → Sdpcm
set_mark s b = sdpcm_of s.packet_tx_seq s.last_bus_data_credit s.wlan_flow_control s.requested_ioctl_id b

abbrev pub set_reply : Pending → Option PendingIoctlResp → Pending
set_reply p x = record { ioctl_resp = x; rx = p.rx }

abbrev pub set_frame : Pending → Option PendingBuf → Pending
set_frame p x = record { ioctl_resp = p.ioctl_resp; rx = x }

abbrev pub link_of : WifiState → Option WifiConnectFailure → WifiAuth → Option ℕ → Link
link_of s f a t = record { state = s; connect_failure = f; current_auth = a; disconnect_started_tick = t }

abbrev pub set_link_state : Link → WifiState → Link
set_link_state l s = link_of s l.connect_failure l.current_auth l.disconnect_started_tick

abbrev pub set_failure : Link → Option WifiConnectFailure → Link
set_failure l f = link_of l.state f l.current_auth l.disconnect_started_tick

abbrev pub set_auth : Link → WifiAuth → Link
set_auth l a = link_of l.state l.connect_failure a l.disconnect_started_tick

abbrev pub set_tick : Link → Option ℕ → Link
set_tick l t = link_of l.state l.connect_failure l.current_auth t
