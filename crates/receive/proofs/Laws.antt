-- The event that a poll brought is the one in the work buffer; a packet that came.
use mathlib.Core.Path.{◌≡◌, refl}
use mathlib.Core.List.{List}
use Prim.Native.Nat.{ℕ}
use lib.IntN.{ℤ}
use Rattle.wlan.specs.declared.Interface.{Interface}
use Rattle.wlan.specs.declared.RxPacket.{RxPacket}
use Rattle.wlan.specs.declared.Sdpcm.{Sdpcm}
use Rattle.definition.specs.Bus.{Bytes}
use Rattle.rx_payload.specs.declared.PacketKind.{PacketKind}
use Rattle.rx.specs.declared.Processed.{Processed}
use Rattle.rx.specs.Packets.{rx_of}
use Rattle.rx_payload.specs.Packets.{received_by, received_of}
use Rattle.device.specs.declared.PollPoint.{PollPoint}
use Rattle.device.specs.Poll.{poll_op, poll_answer, step, got_step, received_step}
use Rattle.device.specs.Meaning.{arrival_at, Tells}
use Rattle.device.proofs.Bridge.{tells-valued}
use Rattle.places.specs.Places.{Holds, sdpcm_put}
use Rattle.poll_points.specs.declared.Polled.{Polled}
use Rattle.poll_points.specs.PollPoints.{next_by, next_of, came_by, Polls}
use Rattle.receive.specs.Receive.{polled_at, polled_kind}
use Rattle.std.specs.Prelude.{Ok, Err}
use Rattle.wlan.specs.Results.{BusAnswer}

pub polled-tells : (s : Sdpcm) (p : PollPoint) (x : BusAnswer) (b : Bytes) → Tells b (arrival_at (poll_op p) b s).event (polled_at s p x b).next
unfolding Tells poll_answer
polled-tells s p (Ok v) b = tells-valued p v s b
polled-tells s p (Err f) b = tt

pub processed : {b d : List ℕ} {r : Polled} (x : Processed) (y : RxPacket) → Holds d (sdpcm_put b x.sdpcm) → ((s : Sdpcm) → step s (next_of r) ≡ got_step s (received_of x.packet)) → rx_of x ≡ y → Polls b d r (received_step y)
processed x y h k e = rw (← e, ← k x.sdpcm) (record { next = refl; held = h })

pub came-is : (k : PacketKind) (offset len : ℕ) (status : ℤ) (interface : Interface) (s : Sdpcm) → step s (next_of (came_by (polled_kind k) offset len status interface)) ≡ got_step s (received_of (record { kind = k; offset = offset; len = len; status = status; interface = interface }))
unfolding next_by polled_kind got_step received_by
came-is PacketKind.None offset len status interface s = refl
came-is PacketKind.Control offset len status interface s = refl
came-is PacketKind.AsyncEvent offset len status interface s = refl
came-is PacketKind.Data offset len status interface s = refl
came-is PacketKind.HeaderBeyond offset len status interface s = refl
