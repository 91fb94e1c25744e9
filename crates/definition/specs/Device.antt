-- `read_bytes` and `sdpcm_poll_device`.
use Rattle.std.specs.Prelude.{ℕ, zero, suc, ◌+◌, ◌/◌, ◌%◌, Bool, true, false, ◌&&◌, ◌||◌, List, [], ◌∷◌, ◌++◌, ltb, eqb, take, drop, replicate, Ok, Err}
use Rattle.std.specs.Int.Bits.{bit_and}
use Rattle.slices.specs.Pick.{pick}
use Rattle.slices.specs.Over.{over}
use Rattle.slices.specs.Le.{le32, round4}
use Rattle.wlan.specs.State.{with_sdpcm, set_mark}
use Rattle.wlan.specs.declared.DriverError.{DriverError}
use Rattle.wlan.specs.declared.SdpcmPacket.{SdpcmPacket}
use Rattle.wlan.specs.declared.RxPacket.{RxPacket}
use Rattle.wlan.specs.declared.State.{State}
use Rattle.definition.specs.Bus.{Bytes, Op, Ans}
use Rattle.definition.specs.Prog.{World, with_state, with_buf, Note, Prog, ret, stop, ask, say, note, M, bind, ◌>>=◌, ◌>>◌, valued, operate}
use Rattle.definition.specs.Packet.{size_in, complement_in, declared, advance, process_rx}
use Rattle.wlan.specs.Results.{Received}
use Rattle.wlan.specs.declared.RxError.{RxError}

-- ---- `read_bytes`

-- 'A read of n bytes transfers T, 4 + n rounded up to 4 bytes. Afterwards buffer byte i is T[i+4] for i < n, T[i] for n <= i <
-- length of T, else unchanged.'
unfoldable pub landed : ℕ → Bytes → Bytes → Bytes
landed n T b = over b 0 (take n (drop 4 T) ++ drop n T)

-- 'A faulted read leaves the Rust's command word in bytes 0..3 and zeros over the rest of T's length.'
unfoldable pub faulted : ℕ → Bytes → Bytes
faulted n b = over b 0 (le32 (0x60000000 + n) ++ replicate (round4 n) 0)

-- ---- `sdpcm_poll_device`

abbrev pub marked : Bool → World → World
marked m w = with_state w (with_sdpcm w.st (set_mark w.st.sdpcm m))

abbrev pub had_packet : State → Bool
had_packet s = s.sdpcm.had_successful_packet

-- an event's header beyond its size ends the call
unfoldable pub packet_in : Received → M SdpcmPacket
packet_in (Ok p) w = ret p w
packet_in (Err RxError.HeaderBeyond) w = stop DriverError.EventHeader w

unfoldable pub read_in : RxPacket → M SdpcmPacket
read_in r w = packet_in r.received (with_state w (with_sdpcm w.st r.sdpcm))

-- 'Size and complement both 0 clears the mark; otherwise it is set before the complement test.'
unfoldable pub got_packet : ℕ → M SdpcmPacket
got_packet n w =
    note (Note.received (declared w.buf) n)
    (pick (eqb (size_in w.buf) 0 && eqb (complement_in w.buf) 0) (ret SdpcmPacket.None (marked false w))
    (note (Note.advanced (advance w.buf w.st.sdpcm)) (read_in (process_rx n w.buf (marked true w).st.sdpcm) (marked true w))))

unfoldable pub arrived : ℕ → Ans → M SdpcmPacket
arrived n (Ans.fault p) w = stop (DriverError.Fault p) (with_buf w (faulted n w.buf))
arrived n (Ans.val v T) w = got_packet n (with_buf w (landed n T w.buf))

-- 'The pending count is bits 9 to 19 of the status word.'
abbrev pub pending : ℕ → ℕ
pending s = s / 512 % 2048

-- 'Zero, above 1,536 or status value 0x2 set'
unfoldable pub unreadable : ℕ → Bool
unreadable s = eqb (pending s) 0 || (ltb 1536 (pending s) || eqb (bit_and s 0x2) 2)

-- 'Bit 0x100 clear: good-packet mark cleared, None. .. write frame control 1, then clear the mark, None. Else read.'
unfoldable pub by_status : ℕ → M SdpcmPacket
by_status s w =
    pick (eqb (bit_and s 0x100) 0) (ret SdpcmPacket.None (marked false w))
    (pick (unreadable s) ((operate Op.frame_control >>= λ n v. ret SdpcmPacket.None (marked false v)) w)
    (ask (Op.read_packet (pending s)) (λ x. arrived (pending s) x w)))

-- a status was read; more: what follows 0xffffffff and its wait
unfoldable pub status_read : M SdpcmPacket → ℕ → M SdpcmPacket
status_read more s w = pick (eqb s 0xffffffff) (say (Op.wait 1000) (more w)) (by_status s w)

-- 'Status is read up to 1,000 times while 0xffffffff, 1 µs wait after each; still so: None.' n reads are left
unfoldable pub status_reads : ℕ → M SdpcmPacket
status_reads zero w = ret SdpcmPacket.None w
status_reads (suc n) w = (operate Op.read_status >>= status_read (status_reads n)) w

-- 'write it back if nonzero'
unfoldable pub acknowledge : ℕ → M (Unit {0})
acknowledge v w = pick (eqb v 0) (ret tt w) ((operate (Op.write_interrupt v) >>= λ n u. ret tt u) w)

-- 'None unless 0x20'
unfoldable pub interrupt_read : ℕ → M SdpcmPacket
interrupt_read v = acknowledge v >>= λ u w. pick (eqb (bit_and v 0x20) 0) (ret SdpcmPacket.None w) (status_reads 1000 w)

-- 'Without an earlier good packet, read interrupt': a poll's first operation, and the poll by its answer
abbrev pub poll_first : State → Op
poll_first s = pick (had_packet s) Op.read_status Op.read_interrupt

unfoldable pub poll_by : Ans → M SdpcmPacket
poll_by x w = pick (had_packet w.st) ((valued x >>= status_read (status_reads 999)) w) ((valued x >>= interrupt_read) w)

unfoldable pub poll_device : M SdpcmPacket
poll_device w = ask (poll_first w.st) (λ x. poll_by x w)
