-- `poll`, and the turns of the loops.
use Rattle.std.specs.Prelude.{ℕ, ◌+◌, ◌-◌, ◌%◌, Bool, true, false, List, [], ltb, leb, Option, Some, None}
use Rattle.slices.specs.Pick.{pick}
use Rattle.wlan.specs.State.{with_link, with_pending, set_failure, set_frame}
use Rattle.wlan.specs.declared.WifiState.{WifiState}
use Rattle.wlan.specs.declared.Success.{Success}
use Rattle.wlan.specs.declared.WlanPollResult.{WlanPollResult}
use Rattle.wlan.specs.declared.SdpcmPacket.{SdpcmPacket}
use Rattle.wlan.specs.declared.State.{State}
use Rattle.definition.specs.Bus.{Bytes, Op, Ans}
use Rattle.definition.specs.Prog.{World, with_state, Turn, again, out, Loop, Back, Prog, ret, loop, M, bind, ◌>>=◌, ◌>>◌, raise, valued, operate}
use Rattle.definition.specs.Event.{handled, released}
use Rattle.definition.specs.Device.{poll_first, poll_by}
use Rattle.definition.specs.Send.{elapsed, response_of, storing, stall_turn}
use Rattle.definition.specs.Ioctl.{in_time}
use Rattle.wlan.specs.declared.WifiConnectFailure.{WifiConnectFailure}

-- what a call that was not refused gives: its success, and the bytes for its output
pub record Result : Type 0 where
  pub success : Success
  pub output : Bytes

abbrev pub giving : Success → M Result
giving x w = ret (record { success = x; output = [] }) w

-- ---- `poll`

abbrev pub holding : ℕ → ℕ → World → World
holding offset len w = with_state w (with_pending w.st (set_frame w.st.pending (Some (record { offset = offset; len = len }))))

-- '`poll` drops a frame below 14 bytes'; it goes on until None or a frame
unfoldable pub poll_turn : SdpcmPacket → M (Turn Bool)
poll_turn SdpcmPacket.None w = ret (out false) w
poll_turn (SdpcmPacket.Control offset len status) w = ret again (storing (response_of offset len status) w)
poll_turn (SdpcmPacket.AsyncEvent offset len) w = ret again (handled offset len w)
poll_turn (SdpcmPacket.Data offset len interface) w = pick (ltb len 14) (ret again w) (ret (out true) (holding offset len w))

-- 'Disconnect 999 ticks stays, 1,000 Down.'
unfoldable pub timed_out : ℕ → ℕ → World → World
timed_out started tick w = pick (leb 1000 (elapsed started tick)) (with_state w (with_link w.st (released w.st.link))) w

-- `poll_disconnect_timeout`
unfoldable pub disconnect_timeout : WifiState → Option ℕ → M (Unit {0})
disconnect_timeout WifiState.Down t w = ret tt w
disconnect_timeout WifiState.Connecting t w = ret tt w
disconnect_timeout WifiState.Connected t w = ret tt w
disconnect_timeout WifiState.Disconnecting None w = ret tt w
disconnect_timeout WifiState.Disconnecting (Some t) w = (operate Op.read_tick >>= λ n v. ret tt (timed_out t n v)) w

abbrev pub unfailed : World → World
unfailed w = with_state w (with_link w.st (set_failure w.st.link None))

-- a failure is reported once, and in Down only
unfoldable pub failure_report : WifiState → Option WifiConnectFailure → M Result
failure_report WifiState.Down None w = giving (Success.Polled WlanPollResult.None) w
failure_report WifiState.Down (Some f) w = giving (Success.Polled (WlanPollResult.ConnectFailed f)) (unfailed w)
failure_report WifiState.Connecting f w = giving (Success.Polled WlanPollResult.None) w
failure_report WifiState.Connected f w = giving (Success.Polled WlanPollResult.None) w
failure_report WifiState.Disconnecting f w = giving (Success.Polled WlanPollResult.None) w

-- a frame returns at once
unfoldable pub polled : Bool → M Result
polled true w = giving (Success.Polled WlanPollResult.Rx) w
polled false w =
    ((λ v. disconnect_timeout v.st.link.state v.st.link.disconnect_started_tick v)
    >> (λ v. failure_report v.st.link.state v.st.link.connect_failure v))
    w

unfoldable pub poll : M Result
poll = (λ w. loop Loop.poll_loop w raise) >>= polled

-- ---- the loops: the operation that a turn opens with, and the turn by its answer

abbrev pub first : Loop → State → Op
first (Loop.stall_loop t0) s = poll_first s
first (Loop.reply_loop t0) s = Op.read_clock
first Loop.poll_loop s = poll_first s

unfoldable pub body : (l : Loop) → Ans → M (Turn (Back l))
body (Loop.stall_loop t0) x = poll_by x >>= stall_turn t0
body (Loop.reply_loop t0) x = valued x >>= in_time t0
body Loop.poll_loop x = poll_by x >>= poll_turn
