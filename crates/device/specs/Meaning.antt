-- What passes by value between the control and the work buffer, and the tree that each point of a poll stands for.
use Rattle.std.specs.Prelude.{◌≡◌, ℕ, ◌<◌, Bool, true, false, ◌&&◌, List, [], eqb, drop, Ok, Err}
use Rattle.std.specs.Int.Bits.{bit_and}
use Rattle.slices.specs.Pick.{pick}
use Rattle.wlan.specs.State.{with_sdpcm, set_mark}
use Rattle.wlan.specs.declared.BusOp.{BusOp}
use Rattle.wlan.specs.declared.AsyncEvent.{AsyncEvent}
use Rattle.wlan.specs.declared.Sdpcm.{Sdpcm}
use Rattle.wlan.specs.declared.SdpcmPacket.{SdpcmPacket}
use Rattle.definition.specs.Bus.{Bytes, Place, nowhere, Op, Ans, fault, val}
use Rattle.definition.specs.Prog.{World, with_state, with_buf, Prog, ret, stop, ask, say, M, bind, valued}
use Rattle.definition.specs.Packet.{size_in, complement_in, process_rx}
use Rattle.definition.specs.Event.{event_of}
use Rattle.definition.specs.Device.{landed, faulted, marked, arrived, status_read, status_reads, interrupt_read}
use Rattle.bus.specs.Op.{op_of}
use Rattle.device.specs.declared.PollPoint.{PollPoint}
use Rattle.device.specs.declared.Arrival.{Arrival}
use Rattle.device.specs.declared.PollNext.{PollNext}
use Rattle.device.specs.declared.PollStep.{PollStep}
use Rattle.device.specs.Poll.{poll_op, poll_answer}
use Rattle.wlan.specs.Results.{BusAnswer, fault_at}
use Rattle.wlan.specs.Results.{Received}
use Rattle.wlan.specs.declared.RxError.{RxError}

-- ---- an operation

-- the code's operation in a call that laid a passphrase at a place
unfoldable pub secretly : Place → Op → Op
secretly s Op.read_interrupt = Op.read_interrupt
secretly s Op.read_status = Op.read_status
secretly s (Op.read_packet n) = Op.read_packet n
secretly s Op.read_clock = Op.read_clock
secretly s Op.read_tick = Op.read_tick
secretly s (Op.write_packet p t) = Op.write_packet p s
secretly s (Op.write_interrupt v) = Op.write_interrupt v
secretly s Op.frame_control = Op.frame_control
secretly s (Op.wait ns) = Op.wait ns

abbrev pub op_in : BusOp → Place → Bytes → Op
op_in q s b = secretly s (op_of q b)

-- an operation and what follows it; a wait has no answer
unfoldable pub asking : {A : Type 0} → Op → (Ans → Prog A) → Prog A
asking Op.read_interrupt k = ask Op.read_interrupt k
asking Op.read_status k = ask Op.read_status k
asking (Op.read_packet n) k = ask (Op.read_packet n) k
asking Op.read_clock k = ask Op.read_clock k
asking Op.read_tick k = ask Op.read_tick k
asking (Op.write_packet p s) k = ask (Op.write_packet p s) k
asking (Op.write_interrupt v) k = ask (Op.write_interrupt v) k
asking Op.frame_control k = ask Op.frame_control k
asking (Op.wait ns) k = say (Op.wait ns) (k (val 0 []))

-- ---- an answer

-- what the control is told
unfoldable pub told : Ans → BusAnswer
told (fault p) = Err (fault_at p)
told (val v T) = Ok v

-- the work buffer after the answer to an operation
unfoldable pub landing : BusOp → Ans → Bytes → Bytes
landing BusOp.ReadInterrupt x b = b
landing BusOp.ReadStatus x b = b
landing (BusOp.ReadPacket n) (fault p) b = faulted n b
landing (BusOp.ReadPacket n) (val v T) b = landed n T b
landing BusOp.ReadClock x b = b
landing BusOp.ReadTick x b = b
landing (BusOp.WritePacket n) x b = b
landing (BusOp.WriteInterrupt v) x b = b
landing BusOp.FrameControl x b = b
landing (BusOp.Wait ns) x b = b

-- an answer's number is as wide as what is read, and a wait has no fault
unfoldable pub InRange : BusOp → Ans → Type 0
InRange BusOp.ReadInterrupt (fault p) = Unit {0}
InRange BusOp.ReadInterrupt (val v T) = v < 65536
InRange BusOp.ReadStatus (fault p) = Unit {0}
InRange BusOp.ReadStatus (val v T) = v < 4294967296
InRange (BusOp.ReadPacket n) x = Unit {0}
InRange BusOp.ReadClock x = Unit {0}
InRange BusOp.ReadTick x = Unit {0}
InRange (BusOp.WritePacket n) x = Unit {0}
InRange (BusOp.WriteInterrupt v) x = Unit {0}
InRange BusOp.FrameControl x = Unit {0}
InRange (BusOp.Wait ns) (fault p) = ⊥
InRange (BusOp.Wait ns) (val v T) = Unit {0}

-- ---- a packet that came

-- its event, where it is one
unfoldable pub packet_event : SdpcmPacket → Bytes → AsyncEvent
packet_event SdpcmPacket.None b = event_of [] 0
packet_event (SdpcmPacket.Control offset len status) b = event_of [] 0
packet_event (SdpcmPacket.AsyncEvent offset len) b = event_of (drop offset b) len
packet_event (SdpcmPacket.Data offset len interface) b = event_of [] 0

unfoldable pub received_event : Received → Bytes → AsyncEvent
received_event (Ok p) b = packet_event p b
received_event (Err RxError.HeaderBeyond) b = event_of [] 0

-- b: the work buffer after the read of n bytes
unfoldable pub arrival_of : ℕ → Bytes → Sdpcm → Arrival
arrival_of n b s =
    record {
      blank = eqb (size_in b) 0 && eqb (complement_in b) 0;
      rx = process_rx n b (set_mark s true);
      event = received_event (process_rx n b (set_mark s true)).received b;
    }

-- after any other operation nothing of it is looked at
unfoldable pub arrival_at : BusOp → Bytes → Sdpcm → Arrival
arrival_at BusOp.ReadInterrupt b s = arrival_of 0 [] s
arrival_at BusOp.ReadStatus b s = arrival_of 0 [] s
arrival_at (BusOp.ReadPacket n) b s = arrival_of n b s
arrival_at BusOp.ReadClock b s = arrival_of 0 [] s
arrival_at BusOp.ReadTick b s = arrival_of 0 [] s
arrival_at (BusOp.WritePacket n) b s = arrival_of 0 [] s
arrival_at (BusOp.WriteInterrupt v) b s = arrival_of 0 [] s
arrival_at BusOp.FrameControl b s = arrival_of 0 [] s
arrival_at (BusOp.Wait ns) b s = arrival_of 0 [] s

-- ---- the points of a poll

-- the tree that is left at a point, by the answer to its operation
unfoldable pub Kp : PollPoint → Ans → M SdpcmPacket
Kp PollPoint.Interrupt x w = bind (valued x w) interrupt_read
Kp (PollPoint.Acknowledge i) x w =
    bind {A = Unit {0}} (bind (valued x w) (λ n u. ret tt u)) (λ u v. pick (eqb (bit_and i 0x20) 0) (ret SdpcmPacket.None v) (status_reads 1000 v))
Kp (PollPoint.Status left) x w = bind (valued x w) (status_read (status_reads left))
Kp (PollPoint.Waited left) x w = status_reads left w
Kp PollPoint.FrameControl x w = bind (valued x w) (λ n v. ret SdpcmPacket.None (marked false v))
Kp (PollPoint.Packet n) x w = arrived n x w

-- a poll's next step, as a tree
unfoldable pub poll_tree : PollNext → World → Prog SdpcmPacket
poll_tree (PollNext.Ask p) w = asking (op_in (poll_op p) nowhere w.buf) (λ x. Kp p x w)
poll_tree (PollNext.Got k) w = ret k w
poll_tree (PollNext.Refused e) w = stop e w

abbrev pub poll_shown : PollStep → World → Prog SdpcmPacket
poll_shown s w = poll_tree s.next (with_state w (with_sdpcm w.st s.sdpcm))

-- the step that the control takes at a point, and the world that it takes it in
abbrev pub landed_world : BusOp → Ans → World → World
landed_world q x w = with_buf w (landing q x w.buf)

abbrev pub poll_step_at : PollPoint → Ans → World → PollStep
poll_step_at p x w = poll_answer w.st.sdpcm p (told x) (arrival_at (poll_op p) (landing (poll_op p) x w.buf) w.st.sdpcm)

-- where a poll brought an event, the event that was read of it is e
unfoldable pub Tells : Bytes → AsyncEvent → PollNext → Type 0
Tells b e (PollNext.Ask p) = Unit {0}
Tells b e (PollNext.Got SdpcmPacket.None) = Unit {0}
Tells b e (PollNext.Got (SdpcmPacket.Control offset len status)) = Unit {0}
Tells b e (PollNext.Got (SdpcmPacket.AsyncEvent offset len)) = e ≡ event_of (drop offset b) len
Tells b e (PollNext.Got (SdpcmPacket.Data offset len interface)) = Unit {0}
Tells b e (PollNext.Refused x) = Unit {0}
