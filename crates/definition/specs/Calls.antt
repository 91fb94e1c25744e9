-- 'cyw43_inner.rs': the fourteen calls.
use Rattle.std.specs.Prelude.{ℕ, ◌+◌, ◌-◌, ◌*◌, ◌%◌, ◌^◌, Bool, true, false, ◌&&◌, ◌||◌, List, [], ◌∷◌, ltb, leb, eqb, length, take, drop, get_or, Option, Some, None}
use Rattle.slices.specs.Pick.{pick}
use Rattle.slices.specs.Over.{over}
use Rattle.slices.specs.Le.{le32_at}
use Rattle.wlan.specs.State.{with_scan, with_pending, with_link, set_frame, set_link_state, set_tick}
use Rattle.wlan.specs.declared.WifiState.{WifiState}
use Rattle.wlan.specs.declared.DriverError.{DriverError}
use Rattle.wlan.specs.declared.Success.{Success}
use Rattle.wlan.specs.declared.State.{State}
use Rattle.definition.specs.Bus.{Bytes, Op, nowhere}
use Rattle.definition.specs.Prog.{World, world, with_state, with_buf, Prog, ret, stop, say, M, bind, ◌>>=◌, ◌>>◌, operate, pause}
use Rattle.definition.specs.Packet.{data_part}
use Rattle.definition.specs.Scan.{cleared}
use Rattle.definition.specs.Request.{country, iovar, set_word, get_word, variable, event_messages, escan, current_address, wlc_up}
use Rattle.definition.specs.Send.{elapsed, clock, send_common}
use Rattle.definition.specs.Ioctl.{exchange}
use Rattle.definition.specs.Poll.{Result, giving, poll}
use Rattle.definition.specs.Join.{tried, join}
use Rattle.wlan.specs.declared.PendingBuf.{PendingBuf}

-- a call with its arguments; numbers are as given, and the call tests them
pub data Call : Type 0 where
  -- country
  wifi_init : ℕ → Call
  wifi_scan : Call
  -- auth, SSID, passphrase
  wifi_connect : ℕ → Bytes → Bytes → Call
  wifi_disconnect : Call
  wifi_abort_connect : Call
  wifi_poll : Call
  -- interface, frame
  send_data : ℕ → Bytes → Call
  -- the output's length
  get_rx_buf : ℕ → Call
  -- pin, level
  gpio_set : ℕ → ℕ → Call
  get_mac_addr : Call
  -- command, interface
  get_ioctl : ℕ → ℕ → Call
  -- command, value, interface
  set_ioctl : ℕ → ℕ → ℕ → Call
  -- interface, name, data
  write_iovar : ℕ → Bytes → Bytes → Call
  up : Call

abbrev done : M Result
done = giving Success.Done

-- ---- init

-- 'in init then cut to the low 32 bits'; start-up was at 0
unfoldable pub settled : ℕ → M (Unit {0})
settled t w =
    let e = elapsed 0 t % 4294967296 in
    pick (ltb e 150000) (pause ((150000 - e) * 1000) w) (ret tt w)

-- `wifi_init_sta`
unfoldable pub init_sta : ℕ → M Result
init_sta c =
    exchange (country c)
    >> (pause 50000000
    >> (exchange (set_word 64 0 0)
    >> (tried (iovar "bus:txglom" (0 ∷ []))
    >> (tried (iovar "apsta" (1 ∷ []))
    >> (tried (iovar "ampdu_ba_wsize" (8 ∷ []))
    >> (tried (iovar "ampdu_mpdu" (4 ∷ []))
    >> (tried (iovar "ampdu_rx_factor" (0 ∷ []))
    >> ((clock >>= settled)
    >> (exchange event_messages
    >> (pause 50000000
    >> (exchange wlc_up
    >> (pause 50000000 >> done))))))))))))

-- ---- scan

abbrev pub scanning : World → World
scanning w = world (with_scan w.st (record { scan_done = false; scan_in_progress = true })) w.buf (cleared w.list)

-- 'Scan while one is in progress succeeds without a wish; else, after its reply, it sets the progress mark and clears the done mark
-- and list.'
unfoldable pub scan : M Result
scan w = pick w.st.scan.scan_in_progress (done w) ((exchange escan >> (λ v. done (scanning v))) w)

-- ---- leave, abort: Disassoc 52

abbrev pub disconnecting : ℕ → World → World
disconnecting t w = with_state w (with_link w.st (set_tick (set_link_state w.st.link WifiState.Disconnecting) (Some t)))

unfoldable pub disconnect : M Result
disconnect = exchange (set_word 52 0 0) >> (operate Op.read_tick >>= λ t w. done (disconnecting t w))

-- ---- frames

abbrev pub is_interface : ℕ → Bool
is_interface i = leb i 2

-- a frame of up to 2,030 bytes fills the work buffer
unfoldable pub send : ℕ → Bytes → M Result
send i frame w =
    pick (is_interface i && leb (length frame) 2030)
    ((send_common 2 (6 + length frame) nowhere >> done) (with_buf w (over w.buf 12 (data_part i frame))))
    (stop DriverError.InvalidArg w)

abbrev pub frameless : World → World
frameless w = with_state w (with_pending w.st (set_frame w.st.pending None))

-- `get_rx_buf`: 5, 6, 11; n: the output's length
unfoldable pub taken : ℕ → Option PendingBuf → M Result
taken n None w = stop DriverError.WouldBlock w
taken n (Some f) w =
    pick (ltb n f.len) (stop DriverError.NoMem (frameless w))
    (pick (ltb 2048 (f.offset + f.len)) (stop DriverError.PastBuffer (frameless w))
    (ret (record { success = Success.Taken f.len; output = take f.len (drop f.offset w.buf) }) (frameless w)))

-- ---- requests

-- `WlcCmd`
unfoldable pub one_of : ℕ → List ℕ → Bool
one_of n [] = false
one_of n (m ∷ ms) = eqb n m || one_of n ms

unfoldable pub is_command : ℕ → Bool
is_command n =
    one_of n (2 ∷ 20 ∷ 22 ∷ 23 ∷ 25 ∷ 26 ∷ 30 ∷ 52 ∷ 63 ∷ 64 ∷ 78 ∷ 85 ∷ 86 ∷ 110 ∷ 134 ∷ 142 ∷ 159 ∷ 165 ∷ 262 ∷ 263 ∷ 268 ∷ [])

unfoldable pub gpio : ℕ → ℕ → M Result
gpio pin level w =
    pick (ltb pin 3) ((exchange (iovar "gpioout" (2 ^ pin ∷ pick (eqb level 0) 0 (2 ^ pin) ∷ [])) >> done) w) (stop DriverError.InvalidArg w)

-- 'MAC 48 bits, first byte highest'
abbrev pub mac_in : Bytes → ℕ
mac_in b =
    get_or b 28 0 * 1099511627776
    + get_or b 29 0 * 4294967296
    + get_or b 30 0 * 16777216
    + get_or b 31 0 * 65536
    + get_or b 32 0 * 256
    + get_or b 33 0

unfoldable pub mac : M Result
mac = exchange current_address >> (λ w. giving (Success.Mac (mac_in w.buf)) w)

unfoldable pub get : ℕ → ℕ → M Result
get cmd i w =
    pick (is_command cmd && is_interface i) ((exchange (get_word cmd i) >> (λ v. giving (Success.Word (le32_at v.buf 28)) v)) w)
    (stop DriverError.InvalidArg w)

unfoldable pub setting : ℕ → ℕ → ℕ → M Result
setting cmd value i w = pick (is_command cmd && is_interface i) ((exchange (set_word cmd value i) >> done) w) (stop DriverError.InvalidArg w)

-- 'a variable's name, zero and data above 2,020'
unfoldable pub variable_set : ℕ → Bytes → Bytes → M Result
variable_set i name bytes w =
    pick (is_interface i && leb (length name + 1 + length bytes) 2020) ((exchange (variable i name bytes) >> done) w)
    (stop DriverError.InvalidArg w)

-- ---- a call's tree

unfoldable pub call : Call → M Result
call (wifi_init c) = init_sta c
call wifi_scan = scan
call (wifi_connect auth ssid passphrase) = join auth ssid passphrase
call wifi_disconnect = disconnect
call wifi_abort_connect = disconnect
call wifi_poll = poll
call (send_data i frame) = send i frame
call (get_rx_buf n) = λ w. taken n w.st.pending.rx w
call (gpio_set pin level) = gpio pin level
call get_mac_addr = mac
call (get_ioctl cmd i) = get cmd i
call (set_ioctl cmd value i) = setting cmd value i
call (write_iovar i name bytes) = variable_set i name bytes
call up = exchange wlc_up >> done
