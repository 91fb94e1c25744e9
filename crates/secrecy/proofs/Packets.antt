-- A packet is read from its first bytes and those that it declares, and what it holds lies within its size.
use mathlib.Core.Path.{◌≡◌, refl, sym}
use mathlib.Core.Bool.{Bool, true, false, ◌&&◌, true≢false}
use Prim.Native.Nat.{ℕ, ◌+◌, ◌*◌, ◌/◌, ◌≤◌, ◌<◌}
use native.Mathlib.Omega.{arith}
use borrow.Author.Tests.{ltb-false}
use lib.Dec.{ltb, leb, eqb}
use lib.ListN.{length, take, get_or}
use Rattle.slices.specs.Pick.{pick}
use Rattle.slices.specs.Le.{le32_at}
use Rattle.slices.proofs.Pick.{by-pick}
use Rattle.wlan.specs.declared.Sdpcm.{Sdpcm}
use Rattle.wlan.specs.declared.SdpcmPacket.{SdpcmPacket}
use Rattle.wlan.specs.declared.RxPacket.{RxPacket}
use Rattle.definition.specs.Bus.{Bytes}
use Rattle.definition.specs.Packet.{size_in, right_complement, is_packet, declared, accepted, control_of, data_of, event_at, payload_of, channel_in, header_length_in, process_rx}
use Rattle.secrecy.proofs.Bufs.{Alike, take-alike}
use Rattle.std.specs.Prelude.{Ok, Err}
use Rattle.wlan.specs.Results.{Received}
use Rattle.wlan.specs.declared.RxError.{RxError}

-- what a packet holds lies below n
abbrev pub Below : ℕ → SdpcmPacket → Type 0
Below n SdpcmPacket.None = Unit {0}
Below n (SdpcmPacket.Control offset len status) = offset + len ≤ n
Below n (SdpcmPacket.AsyncEvent offset len) = offset + len ≤ n
Below n (SdpcmPacket.Data offset len interface) = offset + len ≤ n

abbrev pub ReadBelow : ℕ → Received → Type 0
ReadBelow n (Ok p) = Below n p
ReadBelow n (Err RxError.HeaderBeyond) = Unit {0}

control-below : (v : Bytes) (size h id : ℕ) → Below size (control_of v size h id)
unfolding control_of
control-below v size h id =
    by-pick (Below size) (ltb size (h + 16)) (λ e. tt)
    (λ e. by-pick (Below size) (eqb (le32_at v (h + 8) / 65536) id) (λ u. omega (arith, ltb-false size (h + 16) e)) (λ u. tt))

data-below : (v : Bytes) (size h : ℕ) → Below size (data_of v size h)
unfolding data_of
data-below v size h =
    let p = h + 4 + 4 * get_or v (h + 3) 0 in
    by-pick (Below size) (leb size 16) (λ e. tt)
    (λ e. by-pick (Below size) (ltb size (h + 4)) (λ e. tt)
    (λ e. by-pick (Below size) (ltb size p) (λ e. tt) (λ e. omega (arith, ltb-false size p e))))

payload-below : (v : Bytes) (size channel h id : ℕ) → ReadBelow size (payload_of v size channel h id)
unfolding payload_of event_at
payload-below v size channel h id =
    by-pick (ReadBelow size) (eqb channel 0) (λ e. control-below v size h id)
    (λ e. by-pick (ReadBelow size) (eqb channel 1) (λ e. by-pick (ReadBelow size) (ltb size h) (λ e. tt) (λ e. omega (arith, ltb-false size h e)))
    (λ e. by-pick (ReadBelow size) (eqb channel 2) (λ e. data-below v size h) (λ e. tt)))

declared-is : (b : Bytes) → is_packet b ≡ true → declared b ≡ size_in b
unfolding declared
declared-is b e = go (right_complement b) (leb 12 (size_in b)) e
  where
    go : (x y : Bool) → (x && y) ≡ true → pick x (size_in b) 0 ≡ size_in b
    go true y e = refl
    go false y e = absurd (true≢false (sym e))

pub process-below : (came : ℕ) (b : Bytes) (s : Sdpcm) → ReadBelow (declared b) (process_rx came b s).received
unfolding process_rx
process-below came b s =
    by-pick (λ (r : RxPacket). ReadBelow (declared b) r.received) (is_packet b)
    (λ e. rw (declared-is b e) (payload-below (take (size_in b) b) (size_in b) (channel_in b) (header_length_in b) s.requested_ioctl_id)) (λ e. tt)

pick_same {ℓ} : {A : Type ℓ} (v : Bool) {x y : A} (z : A) → (v ≡ true → x ≡ y) → pick v x z ≡ pick v y z
pick_same true z f = f refl
pick_same false z f = refl

pub process-same : (came : ℕ) (b b' : Bytes) (s : Sdpcm) → length b ≡ length b' → ((i : ℕ) → i < 12 → Alike b b' i) → ((i : ℕ) → i < declared b → Alike b b' i) → process_rx came b' s ≡ process_rx came b s
unfolding process_rx accepted
process-same came b b' s e f g =
    rw (← f 0 (omega arith), ← f 1 (omega arith), ← f 2 (omega arith), ← f 3 (omega arith), ← f 5 (omega arith), ← f 7 (omega arith), ← f 8 (omega arith), ← f 9 (omega arith))
    (pick_same (is_packet b) (record { sdpcm = s; received = Ok SdpcmPacket.None }) (λ u. rw (take-alike b b' (size_in b) e (λ i l. g i (rw (declared-is b u) l)))))
