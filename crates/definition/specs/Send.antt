-- `sdpcm_send_common` and `write_bytes`.
use Rattle.std.specs.Prelude.{ℕ, zero, suc, ◌+◌, ◌-◌, ◌%◌, Bool, true, false, ◌&&◌, not, ltb, leb, eqb, take, Some}
use Rattle.std.specs.Int.Bits.{bit_and}
use Rattle.slices.specs.Pick.{pick}
use Rattle.slices.specs.Over.{over}
use Rattle.slices.specs.Le.{round4}
use Rattle.wlan.specs.State.{with_sdpcm, with_pending, set_seq, set_reply}
use Rattle.wlan.specs.declared.DriverError.{DriverError}
use Rattle.wlan.specs.declared.PendingIoctlResp.{PendingIoctlResp}
use Rattle.wlan.specs.declared.SdpcmPacket.{SdpcmPacket}
use Rattle.wlan.specs.declared.State.{State}
use Rattle.definition.specs.Bus.{Op, Place}
use Rattle.definition.specs.Prog.{World, world, with_state, Note, Turn, again, out, Loop, Prog, ret, stop, say, loop, note, M, bind, ◌>>=◌, ◌>>◌, raise, operate}
use Rattle.definition.specs.Packet.{header}
use Rattle.definition.specs.Event.{handled}

-- 'Elapsed times are taken modulo two to the 64th.'
abbrev pub elapsed : ℕ → ℕ → ℕ
elapsed t0 t = (t + 18446744073709551616 - t0) % 18446744073709551616

abbrev pub clock : M ℕ
clock = operate Op.read_clock

-- ---- the stall

-- '`sdpcm_send_common` stalls while flow is nonzero or credit equals sequence.'
unfoldable pub free : State → Bool
free s = eqb s.sdpcm.wlan_flow_control 0 && not (eqb s.sdpcm.last_bus_data_credit s.sdpcm.packet_tx_seq)

-- `handle_control_packet`
abbrev pub response_of : ℕ → ℕ → lib.IntN.ℤ → PendingIoctlResp
response_of offset len status = record { buf = record { offset = offset; len = len }; status = status }

abbrev pub storing : PendingIoctlResp → World → World
storing r w = with_state w (with_pending w.st (set_reply w.st.pending (Some r)))

-- 'elapsed above 1,000,000: refusal 2', 'then waits 100 µs'
unfoldable pub still_stalled : ℕ → ℕ → M (Turn (Unit {0}))
still_stalled t0 t w = pick (ltb 1000000 (elapsed t0 t)) (stop DriverError.Timeout w) (say (Op.wait 100000) (ret again w))

-- 'it polls, then tests, then the clock'
unfoldable pub stall_test : ℕ → M (Turn (Unit {0}))
stall_test t0 w = pick (free w.st) (ret (out tt) w) ((clock >>= still_stalled t0) w)

-- 'A Control is stored and polling starts again with no test, clock or wait.'
unfoldable pub stall_turn : ℕ → SdpcmPacket → M (Turn (Unit {0}))
stall_turn t0 SdpcmPacket.None w = stall_test t0 w
stall_turn t0 (SdpcmPacket.Control offset len status) w = ret again (storing (response_of offset len status) w)
stall_turn t0 (SdpcmPacket.AsyncEvent offset len) w = stall_test t0 (handled offset len w)
stall_turn t0 (SdpcmPacket.Data offset len interface) w = stall_test t0 w

abbrev pub stalled : ℕ → M (Unit {0})
stalled t0 w = loop (Loop.stall_loop t0) w raise

-- 'After a first clock reading'
unfoldable pub until_free : M (Unit {0})
until_free w = pick (free w.st) (ret tt w) ((clock >>= stalled) w)

-- ---- the write

-- 'the status is read at most 1,000 times until 0x20 is set (never: refusal 2)'; n reads are left
unfoldable pub until_ready : ℕ → M (Unit {0})
until_ready zero w = stop DriverError.Timeout w
until_ready (suc n) w = (operate Op.read_status >>= λ s v. pick (eqb (bit_and s 0x20) 0) (until_ready n v) (ret tt v)) w

-- 'then the packet is written as one wish': its length is the size rounded up to 4
unfoldable pub written : ℕ → Place → M (Unit {0})
written size secret w = (operate (Op.write_packet (take (round4 size) w.buf) secret) >>= λ n v. ret tt v) w

-- the header is laid, and the sequence number spent
abbrev pub headed : ℕ → ℕ → World → World
headed channel size w =
    world (with_sdpcm w.st (set_seq w.st.sdpcm ((w.st.sdpcm.packet_tx_seq + 1) % 256)))
    (over w.buf 0 (header size w.st.sdpcm.packet_tx_seq channel))
    w.list

-- 'A write of over 2,040 bytes is refused 1.'
unfoldable pub emitted : ℕ → Place → M (Unit {0})
emitted size secret w = pick (ltb 2040 (round4 size)) (stop DriverError.InvalidArg w) ((until_ready 1000 >> written size secret) w)

-- the payload lies from byte 12 on
unfoldable pub send_common : ℕ → ℕ → Place → M (Unit {0})
send_common channel len secret = until_free >>= λ u w. note Note.spent (emitted (12 + len) secret (headed channel (12 + len) w))
