-- One name that opens the whole definition, for what is computed.
use Rattle.std.specs.Prelude.{ℕ}
use Rattle.slices.specs.Over.{over}
use Rattle.slices.specs.Le.{signed16, signed32, bytes_of, packed}
use Rattle.definition.specs.Bus.{words_of, log_of, size_of, answer_of, answers_from, taken_by}
use Rattle.definition.specs.Prog.{bind, attempt, raise, turned, valued, operate, pause}
use Rattle.definition.specs.Packet.{header, data_part, declared, advance, accepted, control_of, interface_of, data_of, event_at, payload_of, process_rx}
use Rattle.definition.specs.Scan.{same_bytes, same_network, known, heard, cleared}
use Rattle.definition.specs.Event.{event_bytes, scan_result_of, event_of, first_failure, failing, link_lost, released, deauthenticated, ssid_set, supplicant, link_after, scan_end, scan_after, list_after, handled}
use Rattle.definition.specs.Request.{ascii, ioctl_header, country, unwanted, event_mask, event_messages, scan_options, escan, current_address, wlc_up, join_ssid, set_key, sae_password}
use Rattle.definition.specs.Device.{landed, faulted, packet_in, read_in, got_packet, arrived, unreadable, by_status, status_read, status_reads, acknowledge, interrupt_read, poll_by, poll_device}
use Rattle.definition.specs.Send.{free, still_stalled, stall_test, stall_turn, until_free, until_ready, written, emitted, send_common}
use Rattle.definition.specs.Ioctl.{laid, numbered, is_zero, finished, reply_turn, in_time, reply, do_ioctl, exchange}
use Rattle.definition.specs.Poll.{poll_turn, timed_out, disconnect_timeout, failure_report, polled, poll, body}
use Rattle.definition.specs.Join.{is_dev_error, ignoring, tried, too_long, auth_of, frame_waits, reply_waits, key_laid, pmk_set, sae_set, ssid_sent, down_on_error, length_tested, joined, if_down, join}
use Rattle.definition.specs.Calls.{settled, init_sta, scan, disconnect, send, taken, one_of, is_command, gpio, mac, get, setting, variable_set, call}
use Rattle.definition.specs.Run.{settle, run, shown, run_of, called}
use Rattle.definition.specs.Player.{name_length, variable_of, join_of, arguments_of, next_call, state_number, played_call, play_from, play}

unfoldable pub opened : ℕ
unfolding over signed16 signed32 bytes_of packed words_of log_of size_of answer_of answers_from taken_by bind attempt raise turned valued operate pause header data_part declared advance accepted control_of interface_of data_of event_at payload_of process_rx same_bytes same_network known heard cleared event_bytes scan_result_of event_of first_failure failing link_lost released deauthenticated ssid_set supplicant link_after scan_end scan_after list_after handled ascii ioctl_header country unwanted event_mask event_messages scan_options escan current_address wlc_up join_ssid set_key sae_password landed faulted packet_in read_in got_packet arrived unreadable by_status status_read status_reads acknowledge interrupt_read poll_by poll_device free still_stalled stall_test stall_turn until_free until_ready written emitted send_common laid numbered is_zero finished reply_turn in_time reply do_ioctl exchange poll_turn timed_out disconnect_timeout failure_report polled poll body is_dev_error ignoring tried too_long auth_of frame_waits reply_waits key_laid pmk_set sae_set ssid_sent down_on_error length_tested joined if_down join settled init_sta scan disconnect send taken one_of is_command gpio mac get setting variable_set call settle run shown run_of called name_length variable_of join_of arguments_of next_call state_number played_call play_from play
opened = 0
