-- The definition of `process_rx`, case by case: what each `return` cites.
use Prim.Native.Nat.{ℕ}
use mathlib.Core.Path.{◌≡◌}
use mathlib.Core.Bool.{true, false}
use lib.ListN.{take}
use Rattle.wlan.specs.declared.Sdpcm.{Sdpcm}
use Rattle.wlan.specs.declared.SdpcmPacket.{SdpcmPacket}
use Rattle.definition.specs.Bus.{Bytes}
use Rattle.definition.specs.Packet.{size_in, channel_in, header_length_in, is_packet, accepted, payload_of, process_rx}
use Rattle.std.specs.Prelude.{Ok}
use Rattle.wlan.specs.Results.{Received}

module _ (came : ℕ) (b : Bytes) (s : Sdpcm) where
  pub process-not : (r : Received) → is_packet b ≡ false → r ≡ Ok SdpcmPacket.None → record { sdpcm = s; received = r } ≡ process_rx came b s
  unfolding process_rx
  process-not r p q = simp (p, q)

  pub process-is : (size channel : ℕ) (next : Sdpcm) (r : Received) → is_packet b ≡ true → next ≡ accepted b s → size ≡ size_in b → channel ≡ channel_in b → r ≡ payload_of (take size b) size channel (header_length_in b) s.requested_ioctl_id → record { sdpcm = next; received = r } ≡ process_rx came b s
  unfolding process_rx
  process-is size channel next r p d e f q = simp (p, d, q, e, f)
