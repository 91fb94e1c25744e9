-- The player's input and output, over words. Input is read to its end; one to three bytes left over count as cut short.
use Rattle.std.specs.Prelude.{ℕ, zero, suc, ◌+◌, ◌-◌, Bool, true, false, ◌&&◌, not, List, [], ◌∷◌, ltb, leb, eqb, length, take, drop, get_or, replicate, Err}
use Rattle.slices.specs.Pick.{pick}
use Rattle.slices.specs.Le.{le32_at, words_for, bytes_of}
use Rattle.wlan.specs.Outcome.{refusal_of, value_of}
use Rattle.wlan.specs.State.{fresh}
use Rattle.wlan.specs.declared.WifiState.{WifiState}
use Rattle.wlan.specs.declared.DriverError.{DriverError}
use Rattle.wlan.specs.declared.Refusal.{Refusal}
use Rattle.wlan.specs.declared.ScanRecord.{ScanRecord}
use Rattle.wlan.specs.declared.ScanList.{ScanList}
use Rattle.wlan.specs.declared.State.{State}
use Rattle.definition.specs.Bus.{Bytes}
use Rattle.definition.specs.Prog.{World, world}
use Rattle.definition.specs.Calls.{Call}
use Rattle.definition.specs.Run.{Run, finished, End, shown, called}

-- ---- arguments

pub data Arguments : Type 0 where
  call_with : Call → Arguments
  -- 'arguments missing or left over'
  bad_arguments : Arguments

abbrev if_long : Bytes → ℕ → Call → Arguments
if_long a n c = pick (eqb (length a) n) (call_with c) bad_arguments

-- the name's length: up to the first zero
unfoldable pub name_length : Bytes → ℕ
name_length [] = 0
name_length (zero ∷ s) = 0
name_length (suc x ∷ s) = suc (name_length s)

-- 'variable interface, name, zero, data'
unfoldable pub variable_of : Bytes → Arguments
variable_of a =
    let s = drop 4 a in
    let n = name_length s in
    pick (leb 4 (length a) && ltb n (length s)) (call_with (Call.write_iovar (le32_at a 0) (take n s) (drop (n + 1) s))) bad_arguments

-- 'join auth 0..5, SSID length, SSID, passphrase'
unfoldable pub join_of : Bytes → Arguments
join_of a =
    let n = le32_at a 4 in
    pick (leb 8 (length a) && leb (8 + n) (length a)) (call_with (Call.wifi_connect (le32_at a 0) (take n (drop 8 a)) (drop (8 + n) a))) bad_arguments

-- 'Calls: 1 init, 2 scan, 3 join, 4 leave, 5 abort, 6 poll, 7 send, 8 take, 9 GPIO, 10 MAC, 11 get, 12 set, 13 variable, 14 up;
-- numbers are le words'
unfoldable pub arguments_of : ℕ → Bytes → Arguments
arguments_of c a =
    pick (eqb c 1) (if_long a 4 (Call.wifi_init (le32_at a 0)))
    (pick (eqb c 2) (if_long a 0 Call.wifi_scan)
    (pick (eqb c 3) (join_of a)
    (pick (eqb c 4) (if_long a 0 Call.wifi_disconnect)
    (pick (eqb c 5) (if_long a 0 Call.wifi_abort_connect)
    (pick (eqb c 6) (if_long a 0 Call.wifi_poll)
    (pick (eqb c 7) (pick (leb 4 (length a)) (call_with (Call.send_data (le32_at a 0) (drop 4 a))) bad_arguments)
    (pick (eqb c 8) (if_long a 4 (Call.get_rx_buf (le32_at a 0)))
    (pick (eqb c 9) (if_long a 8 (Call.gpio_set (le32_at a 0) (le32_at a 4)))
    (pick (eqb c 10) (if_long a 0 Call.get_mac_addr)
    (pick (eqb c 11) (if_long a 8 (Call.get_ioctl (le32_at a 0) (le32_at a 4)))
    (pick (eqb c 12) (if_long a 12 (Call.set_ioctl (le32_at a 0) (le32_at a 4) (le32_at a 8)))
    (pick (eqb c 13) (variable_of a) (if_long a 0 Call.up)))))))))))))

-- take's output is as long as its argument says; no other call has one
abbrev pub output_of : ℕ → Bytes → Bytes
output_of c a = pick (eqb c 8 && eqb (length a) 4) (replicate (le32_at a 0) 0) []

-- ---- input

pub data Input : Type 0 where
  nothing : Input
  bad : Input
  -- the call's number, its argument bytes, its recording, and the words that follow
  one : ℕ → Bytes → List ℕ → List ℕ → Input

-- '0xF0000000 + call, argument byte count (at most 2,048), bytes padded to words, recording length (at most 4,096), recording'
unfoldable pub next_call : List ℕ → Input
next_call [] = nothing
next_call (h ∷ ws) =
    let count = get_or ws 0 0 in
    let m = words_for count in
    let n = get_or ws (1 + m) 0 in
    let a = take count (bytes_of (take m (drop 1 ws))) in
    pick
    (ltb 0xF0000000 h
    && (leb h 0xF000000E
    && (leb count 2048
    && (leb n 4096 && (leb (2 + m + n) (length ws) && not (eqb h 0xF0000008 && (eqb count 4 && ltb 2048 (le32_at a 0))))))))
    (one (h - 0xF0000000) a (take n (drop (2 + m) ws)) (drop (2 + m + n) ws))
    bad

-- ---- output

pub data Line : Type 0 where
  -- call, refusal, value, state, sequence, credit, flow, id, log words; then the log
  line : List ℕ → List ℕ → Line
  bad_line : Line

-- 'state 0..3 in `WifiState` order'
unfoldable pub state_number : WifiState → ℕ
state_number WifiState.Down = 0
state_number WifiState.Connecting = 1
state_number WifiState.Connected = 2
state_number WifiState.Disconnecting = 3

abbrev pub numbers : End → List ℕ
numbers e =
    let s = e.st.sdpcm in
    refusal_of e.outcome
    ∷ value_of e.outcome
    ∷ state_number e.st.link.state
    ∷ s.packet_tx_seq
    ∷ s.last_bus_data_credit
    ∷ s.wlan_flow_control
    ∷ s.requested_ioctl_id
    ∷ e.len
    ∷ []

abbrev pub line_of : ℕ → End → Line
line_of c e = line (c ∷ numbers e) (take e.len e.log)

-- ---- a session

-- 'The log has 8,192 words.'
abbrev pub empty_log : List ℕ
empty_log = replicate 8192 0

unfoldable pub played_call : World → List ℕ → List ℕ → Bytes → Arguments → End
played_call w recording log out (call_with c) = called c w recording log out
played_call w recording log out bad_arguments =
    shown log out (finished (Err (Refusal.Driver DriverError.InvalidArg)) [] w)

abbrev empty_record : ScanRecord
empty_record = record { ssid = replicate 32 0; bssid = replicate 6 0; ssid_len = 0; channel = 0; rssi = lib.IntN.pos 0 }

abbrev pub empty_list : ScanList
empty_list = record { records = replicate 32 empty_record; count = 0 }

abbrev world_of : End → World
world_of e = world e.st e.buf e.list

-- n bounds how many calls are read
unfoldable pub play_from : ℕ → World → Input → List Line
play_from zero w i = []
play_from (suc n) w nothing = []
play_from (suc n) w bad = bad_line ∷ []
play_from (suc n) w (one c a recording more) =
    let e = played_call w recording empty_log (output_of c a) (arguments_of c a) in
    line_of c e ∷ play_from n (world_of e) (next_call more)

-- 'The first call finds a fresh state and a zeroed buffer.' A call takes three words or more.
unfoldable pub play : List ℕ → List Line
play ws = play_from (suc (length ws)) (world fresh (replicate 2048 0) empty_list) (next_call ws)
