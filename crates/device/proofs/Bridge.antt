-- A poll's step is the tree's: at every point, for every answer, in every world.
use mathlib.Core.Path.{◌≡◌, refl, sym, ap, ◌∙◌}
use mathlib.Core.Bool.{Bool, true, false, ◌&&◌}
use mathlib.Core.List.{List, []}
use Prim.Native.Nat.{ℕ, zero, suc, ◌-◌, ◌%◌, ◌<◌}
use native.Mathlib.Omega.{arith}
use lib.Bits.{bit_and}
use lib.Dec.{eqb, eqb-suc-zero}
use Rattle.slices.specs.Pick.{pick}
use Rattle.wlan.specs.State.{with_sdpcm, set_mark}
use Rattle.wlan.specs.declared.BusOp.{BusOp}
use Rattle.wlan.specs.declared.AsyncEvent.{AsyncEvent}
use Rattle.wlan.specs.declared.Sdpcm.{Sdpcm}
use Rattle.wlan.specs.declared.SdpcmPacket.{SdpcmPacket}
use Rattle.definition.specs.Bus.{Bytes, Op, Ans, fault, val, nowhere}
use Rattle.definition.specs.Prog.{World, world, with_state, with_buf, Note, Prog, ret, stop, ask, say, note, bind, valued, operate}
use Rattle.definition.specs.Packet.{size_in, complement_in, advance, process_rx}
use Rattle.definition.specs.Device.{landed, faulted, marked, had_packet, packet_in, read_in, got_packet, arrived, pending, unreadable, by_status, status_read, status_reads, acknowledge, interrupt_read, poll_first, poll_by, poll_device}
use Rattle.definition.proofs.Compose.{unroll}
use Rattle.bus.specs.Op.{op_of}
use Rattle.device.specs.declared.PollPoint.{PollPoint}
use Rattle.device.specs.declared.Arrival.{Arrival}
use Rattle.device.specs.declared.PollNext.{PollNext}
use Rattle.device.specs.declared.PollStep.{PollStep}
use Rattle.device.specs.Poll.{poll_op, step, poll_start, acknowledged, interrupt_step, status_step, read_step, waited, got_step, received_step, arrived_step, valued_step, poll_answer}
use Rattle.device.specs.Meaning.{secretly, op_in, asking, told, landing, InRange, arrival_of, received_event, packet_event, arrival_at, Kp, poll_tree, poll_shown, landed_world, poll_step_at, Tells}
use Rattle.std.specs.Prelude.{Ok, Err}
use Rattle.wlan.specs.Results.{Received}
use Rattle.wlan.specs.declared.RxError.{RxError}

-- 0x20 is tested, and the status read
acknowledged-is : (i : ℕ) (w : World) → unroll (pick (eqb (bit_and i 0x20) 0) (ret SdpcmPacket.None w) (status_reads 1000 w)) ≡ poll_shown (acknowledged w.st.sdpcm i) w
unfolding unroll acknowledged status_reads operate bind poll_tree poll_op secretly asking Kp
acknowledged-is i w = by (eqb (bit_and i 0x20) 0)
  where
    by : (b : Bool) → unroll (pick b (ret SdpcmPacket.None w) (status_reads 1000 w)) ≡ poll_shown (pick b (step w.st.sdpcm (PollNext.Got SdpcmPacket.None)) (step w.st.sdpcm (PollNext.Ask (PollPoint.Status 999)))) w
    by true = refl
    by false = refl

interrupt-is : (v : ℕ) (w : World) → unroll (interrupt_read v w) ≡ poll_shown (interrupt_step w.st.sdpcm v) w
unfolding unroll interrupt_read acknowledge interrupt_step operate bind poll_tree poll_op secretly asking Kp
interrupt-is v w = by (eqb v 0)
  where
    by : (b : Bool) → unroll (bind {A = Unit {0}} (pick b (ret tt w) (bind (operate (Op.write_interrupt v) w) (λ n u. ret tt u))) (λ u x. pick (eqb (bit_and v 0x20) 0) (ret SdpcmPacket.None x) (status_reads 1000 x))) ≡ poll_shown (pick b (acknowledged w.st.sdpcm v) (step w.st.sdpcm (PollNext.Ask (PollPoint.Acknowledge v)))) w
    by true = acknowledged-is v w
    by false = refl

status-is : (s : ℕ) (w : World) → unroll (by_status s w) ≡ poll_shown (status_step w.st.sdpcm s) w
unfolding unroll by_status status_step operate bind poll_tree poll_op secretly asking Kp
status-is s w = by (eqb (bit_and s 0x100) 0) (unreadable s)
  where
    by : (b c : Bool) → unroll (pick b (ret SdpcmPacket.None (marked false w)) (pick c (bind (operate Op.frame_control w) (λ n v. ret SdpcmPacket.None (marked false v))) (ask (Op.read_packet (pending s)) (λ x. arrived (pending s) x w)))) ≡ poll_shown (pick b (step (set_mark w.st.sdpcm false) (PollNext.Got SdpcmPacket.None)) (pick c (step w.st.sdpcm (PollNext.Ask PollPoint.FrameControl)) (step w.st.sdpcm (PollNext.Ask (PollPoint.Packet (pending s)))))) w
    by true c = refl
    by false true = refl
    by false false = refl

less : (n : ℕ) → suc n - 1 ≡ n
less n = omega arith

-- what follows a wait
waited-is : (left : ℕ) (w : World) → unroll (status_reads left w) ≡ poll_shown (waited w.st.sdpcm left) w
unfolding unroll status_reads waited operate bind poll_tree poll_op secretly asking Kp
waited-is zero w = refl
waited-is (suc left) w = rw (eqb-suc-zero left, less left) refl

read_is : (left s : ℕ) (w : World) → unroll (status_read (status_reads left) s w) ≡ poll_shown (read_step w.st.sdpcm left s) w
unfolding unroll status_read read_step poll_tree poll_op secretly asking Kp
read_is left s w = by (eqb s 0xffffffff)
  where
    by : (b : Bool) → unroll (pick b (say (Op.wait 1000) (status_reads left w)) (by_status s w)) ≡ poll_shown (pick b (step w.st.sdpcm (PollNext.Ask (PollPoint.Waited left))) (status_step w.st.sdpcm s)) w
    by true = refl
    by false = status-is s w

-- ---- a packet

received_is : (s : Sdpcm) (r : Received) (w : World) → unroll (packet_in r (with_state w (with_sdpcm w.st s))) ≡ poll_shown (got_step s r) w
unfolding unroll packet_in got_step poll_tree
received_is s (Ok p) w = refl
received_is s (Err RxError.HeaderBeyond) w = refl

got-is : (n : ℕ) (w : World) → unroll (got_packet n w) ≡ poll_shown (arrived_step w.st.sdpcm (arrival_of n w.buf w.st.sdpcm)) w
unfolding unroll got_packet read_in arrived_step arrival_of poll_tree
got-is n w = by (eqb (size_in w.buf) 0 && eqb (complement_in w.buf) 0)
  where
    by : (b : Bool) → unroll (pick b (ret SdpcmPacket.None (marked false w)) (note (Note.advanced (advance w.buf w.st.sdpcm)) (read_in (process_rx n w.buf (marked true w).st.sdpcm) (marked true w)))) ≡ poll_shown (pick b (step (set_mark w.st.sdpcm false) (PollNext.Got SdpcmPacket.None)) (received_step (process_rx n w.buf (set_mark w.st.sdpcm true)))) w
    by true = refl
    by false = received_is (process_rx n w.buf (set_mark w.st.sdpcm true)).sdpcm (process_rx n w.buf (set_mark w.st.sdpcm true)).received w

-- ---- the bridge

small16 : (v : ℕ) → v < 65536 → v % 65536 ≡ v
small16 v h = omega arith

small32 : (v : ℕ) → v < 4294967296 → v % 4294967296 ≡ v
small32 v h = omega arith

pub poll-is : (p : PollPoint) (x : Ans) (w : World) → InRange (poll_op p) x → unroll (Kp p x w) ≡ poll_shown (poll_step_at p x w) (landed_world (poll_op p) x w)
unfolding Kp unroll bind valued arrived landing told arrival_at poll_op poll_answer valued_step poll_tree InRange
poll-is PollPoint.Interrupt (fault p) w h = refl
poll-is PollPoint.Interrupt (val v T) w h = rw (small16 v h) (interrupt-is v w)
poll-is (PollPoint.Acknowledge i) (fault p) w h = refl
poll-is (PollPoint.Acknowledge i) (val v T) w h = acknowledged-is i w
poll-is (PollPoint.Status left) (fault p) w h = refl
poll-is (PollPoint.Status left) (val v T) w h = rw (small32 v h) (read_is left v w)
poll-is (PollPoint.Waited left) (fault p) w h = absurd h
poll-is (PollPoint.Waited left) (val v T) w h = waited-is left w
poll-is PollPoint.FrameControl (fault p) w h = refl
poll-is PollPoint.FrameControl (val v T) w h = refl
poll-is (PollPoint.Packet n) (fault p) w h = refl
poll-is (PollPoint.Packet n) (val v T) w h = got-is n (with_buf w (landed n T w.buf))

-- a poll's beginning
pub start_is : (w : World) → unroll (poll_device w) ≡ poll_tree (PollNext.Ask (poll_start w.st.sdpcm)) w
unfolding unroll poll_device poll_by poll_start poll_tree poll_op secretly asking Kp
start_is w = by (had_packet w.st)
  where
    by : (b : Bool) → ask (pick b Op.read_status Op.read_interrupt) (λ x. pick b (bind (valued x w) (status_read (status_reads 999))) (bind (valued x w) interrupt_read)) ≡ poll_tree (PollNext.Ask (pick b (PollPoint.Status 999) PollPoint.Interrupt)) w
    by true = refl
    by false = refl

-- ---- the event of a packet that came

tells-got : (s : Sdpcm) (r : Received) (b : Bytes) → Tells b (received_event r b) (got_step s r).next
unfolding Tells received_event packet_event got_step
tells-got s (Ok SdpcmPacket.None) b = tt
tells-got s (Ok (SdpcmPacket.Control o l t)) b = tt
tells-got s (Ok (SdpcmPacket.AsyncEvent o l)) b = refl
tells-got s (Ok (SdpcmPacket.Data o l i)) b = tt
tells-got s (Err RxError.HeaderBeyond) b = tt

-- a test whose sides tell
tells-pick : (c : Bool) (b : Bytes) (e : AsyncEvent) (s t : PollStep) → Tells b e s.next → Tells b e t.next → Tells b e (pick c s t).next
tells-pick true b e s t h g = h
tells-pick false b e s t h g = g

pub tells-valued : (p : PollPoint) (v : ℕ) (s : Sdpcm) (b : Bytes) → Tells b (arrival_at (poll_op p) b s).event (valued_step s p v (arrival_at (poll_op p) b s)).next
unfolding Tells poll_op arrival_at arrival_of valued_step interrupt_step acknowledged status_step read_step waited arrived_step
tells-valued PollPoint.Interrupt v s b = tells-pick (eqb (v % 65536) 0) b _ _ _ (tells-pick (eqb (bit_and (v % 65536) 0x20) 0) b _ _ _ tt tt) tt
tells-valued (PollPoint.Acknowledge i) v s b = tells-pick (eqb (bit_and i 0x20) 0) b _ _ _ tt tt
tells-valued (PollPoint.Status left) v s b =
    tells-pick (eqb (v % 4294967296) 0xffffffff) b _ _ _ tt
    (tells-pick (eqb (bit_and (v % 4294967296) 0x100) 0) b _ _ _ tt (tells-pick (unreadable (v % 4294967296)) b _ _ _ tt tt))
tells-valued (PollPoint.Waited left) v s b = tells-pick (eqb left 0) b _ _ _ tt tt
tells-valued PollPoint.FrameControl v s b = tt
tells-valued (PollPoint.Packet n) v s b =
    tells-pick (eqb (size_in b) 0 && eqb (complement_in b) 0) b _ _ _ tt (tells-got (process_rx n b (set_mark s true)).sdpcm (process_rx n b (set_mark s true)).received b)

pub poll-tells : (p : PollPoint) (x : Ans) (w : World) → Tells (landing (poll_op p) x w.buf) (arrival_at (poll_op p) (landing (poll_op p) x w.buf) w.st.sdpcm).event (poll_step_at p x w).next
unfolding Tells told poll_answer
poll-tells p (fault x) w = tt
poll-tells p (val v T) w = tells-valued p v w.st.sdpcm (landing (poll_op p) (val v T) w.buf)
