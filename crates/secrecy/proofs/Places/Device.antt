-- The device poll writes no packet.
use mathlib.Core.Bool.{Bool, true, false, ◌&&◌}
use Prim.Native.Nat.{ℕ, zero, suc}
use lib.Bits.{bit_and}
use lib.Dec.{eqb}
use Rattle.slices.specs.Pick.{pick}
use Rattle.wlan.specs.declared.SdpcmPacket.{SdpcmPacket}
use Rattle.wlan.specs.declared.State.{State}
use Rattle.definition.specs.Bus.{Place, Op, Ans}
use Rattle.definition.specs.Prog.{M}
use Rattle.definition.specs.Packet.{size_in, complement_in}
use Rattle.definition.specs.Device.{had_packet, pending, unreadable, packet_in, read_in, got_packet, arrived, by_status, status_read, status_reads, acknowledge, interrupt_read, poll_first, poll_by, poll_device}
use Rattle.secrecy.proofs.Places.Tree.{PlaceIs, w-ret, w-stop, w-ask, w-say, w-note, Does, w-bind, w-pick, w-valued, w-operate}
use Rattle.std.specs.Prelude.{Ok, Err}
use Rattle.wlan.specs.Results.{Received}
use Rattle.wlan.specs.declared.RxError.{RxError}

module _ (Q : Place → Type 0) where
  packet_in-w : (r : Received) → Does Q (packet_in r)
  unfolding packet_in
  packet_in-w (Ok p) w = w-ret
  packet_in-w (Err RxError.HeaderBeyond) w = w-stop

  got_packet-w : (m : ℕ) → Does Q (got_packet m)
  unfolding got_packet read_in
  got_packet-w m w = w-note (w-pick Q (eqb (size_in w.buf) 0 && eqb (complement_in w.buf) 0) w-ret (w-note (packet_in-w _ _)))

  arrived-w : (m : ℕ) (x : Ans) → Does Q (arrived m x)
  unfolding arrived
  arrived-w m (Ans.fault p) w = w-stop
  arrived-w m (Ans.val v T) w = got_packet-w m _

  by_status-w : (s : ℕ) → Does Q (by_status s)
  unfolding by_status
  by_status-w s w =
      w-pick Q (eqb (bit_and s 0x100) 0) w-ret (w-pick Q (unreadable s) (w-bind Q _ (w-operate Q Op.frame_control tt w) (λ n v. w-ret)) (w-ask tt (λ x. arrived-w (pending s) x w)))

  status_read-w : (more : M SdpcmPacket) (s : ℕ) → Does Q more → Does Q (status_read more s)
  unfolding status_read
  status_read-w more s g w = w-pick Q (eqb s 0xffffffff) (w-say tt (g w)) (by_status-w s w)

  status_reads-w : (k : ℕ) → Does Q (status_reads k)
  unfolding status_reads
  status_reads-w zero w = w-ret
  status_reads-w (suc k) w = w-bind Q _ (w-operate Q Op.read_status tt w) (λ s. status_read-w (status_reads k) s (status_reads-w k))

  interrupt_read-w : (v : ℕ) → Does Q (interrupt_read v)
  unfolding interrupt_read acknowledge
  interrupt_read-w v w =
      w-bind Q _ (w-pick Q (eqb v 0) w-ret (w-bind Q _ (w-operate Q (Op.write_interrupt v) tt w) (λ m u. w-ret))) (λ u x. w-pick Q (eqb (bit_and v 0x20) 0) w-ret (status_reads-w 1000 x))

  pub poll_by-w : (x : Ans) → Does Q (poll_by x)
  unfolding poll_by
  poll_by-w x w =
      w-pick Q (had_packet w.st) (w-bind Q _ (w-valued Q x w) (λ s. status_read-w (status_reads 999) s (status_reads-w 999))) (w-bind Q _ (w-valued Q x w) interrupt_read-w)

  pub poll_first-w : (s : State) → PlaceIs Q (poll_first s)
  poll_first-w s = go (had_packet s)
    where
      go : (b : Bool) → PlaceIs Q (pick b Op.read_status Op.read_interrupt)
      go true = tt
      go false = tt

  pub poll_device-w : Does Q poll_device
  unfolding poll_device
  poll_device-w w = w-ask (poll_first-w w.st) (λ x. poll_by-w x w)
