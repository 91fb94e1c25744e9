-- A status that was read, and the packet behind it, are paid for with the words of the answer before.
use Prim.Native.Nat.{ℕ, ◌+◌, ◌-◌, ◌≤◌}
use native.Mathlib.Omega.{arith}
use lib.Bits.{bit_and}
use lib.Dec.{eqb}
use Rattle.slices.proofs.Pick.{by-pick}
use Rattle.wlan.specs.declared.SdpcmPacket.{SdpcmPacket}
use Rattle.definition.specs.Bus.{Op, words_of, Ans, fault, val}
use Rattle.definition.specs.Prog.{World, M, bind, operate}
use Rattle.definition.specs.Device.{pending, unreadable, packet_in, read_in, got_packet, arrived, by_status, status_read}
use Rattle.definition.specs.Run.{words}
use Rattle.definition.specs.Longest.{most}
use Rattle.definition.proofs.Walk.Course.{empty}
use Rattle.definition.proofs.Longest.Most.{low, most-between}
use Rattle.definition.proofs.Longest.Pays.{paid, Pays, p-weaken, p-valued}
use Rattle.std.specs.Prelude.{Ok, Err}
use Rattle.wlan.specs.Results.{Received}
use Rattle.wlan.specs.declared.RxError.{RxError}

-- what it leaves to log: after None the tick, after a packet the loop once more
abbrev pub PacketQ : SdpcmPacket → ℕ → ℕ
PacketQ SdpcmPacket.None n = 1
PacketQ (SdpcmPacket.Control o l s) n = most n
PacketQ (SdpcmPacket.AsyncEvent o l) n = most n
PacketQ (SdpcmPacket.Data o l i) n = most n

packet-below : (p : SdpcmPacket) (n : ℕ) → PacketQ p n ≤ low (n + 1)
packet-below SdpcmPacket.None n = omega arith
packet-below (SdpcmPacket.Control o l s) n = (most-between n).below
packet-below (SdpcmPacket.AsyncEvent o l) n = (most-between n).below
packet-below (SdpcmPacket.Data o l i) n = (most-between n).below

-- a packet came: of its words one is enough
packet_in-pays : (r : Received) (w : World) (f : ℕ → ℕ) → ((n : ℕ) → low (n + 1) ≤ f n) → Pays PacketQ f (packet_in r w)
unfolding packet_in
packet_in-pays (Ok p) w f h = λ n. omega (arith, packet-below p n, h n)
packet_in-pays (Err RxError.HeaderBeyond) w f h = tt

got_packet-pays : (m : ℕ) (w : World) (f : ℕ → ℕ) → ((n : ℕ) → low (n + 1) ≤ f n) → Pays PacketQ f (got_packet m w)
unfolding got_packet read_in
got_packet-pays m w f h = by-pick (Pays PacketQ f) (empty w.buf) (λ e n. omega (arith, h n)) (λ e. packet_in-pays _ _ f h)

arrived-pays : (m : ℕ) (x : Ans) (w : World) (f : ℕ → ℕ) → ((n : ℕ) → low (n + 1) ≤ f n) → Pays PacketQ f (arrived m x w)
unfolding arrived
arrived-pays m (fault p) w f h = tt
arrived-pays m (val v T) w f h = got_packet-pays m _ f h

-- a status was read: two words for one
abbrev pub status_left : ℕ → ℕ
status_left n = low (n + 2) - 1

by_status-pays : (s : ℕ) (w : World) → Pays PacketQ status_left (by_status s w)
unfolding by_status operate bind words_of
by_status-pays s w =
    by-pick (Pays PacketQ status_left) (eqb (bit_and s 0x100) 0) (λ e n. omega arith)
    (λ e. by-pick (Pays PacketQ status_left) (unreadable s) (λ u. (λ n. omega arith, p-valued PacketQ Op.frame_control status_left _ w (λ v n. omega arith)))
    (λ u. (λ n. omega arith, λ x. arrived-pays (pending s) x w _ (λ n. left x n))))
  where
    left : (x : Ans) (n : ℕ) → low (n + 1) ≤ paid (Op.read_packet (pending s)) x status_left n
    left (fault p) n = omega arith
    left (val v b) n = omega arith

-- 0xffffffff: two words, the read and its wait, for two
pub status_read-pays : (more : M SdpcmPacket) → ((w : World) → Pays PacketQ low (more w)) → (s : ℕ) (w : World) → Pays PacketQ status_left (status_read more s w)
unfolding status_read words_of
status_read-pays more h s w =
    by-pick (Pays PacketQ status_left) (eqb s 0xffffffff) (λ e. (λ n. omega arith, p-weaken PacketQ low _ (more w) (λ n. omega arith) (h w))) (λ e. by_status-pays s w)
