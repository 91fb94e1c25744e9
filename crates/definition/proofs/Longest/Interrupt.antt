-- An interrupt that was read, and the statuses after it, are paid for.
use Prim.Native.Nat.{ℕ, zero, suc, ◌+◌, ◌-◌, ◌≤◌}
use native.Mathlib.Omega.{arith}
use borrow.Author.Tests.{eqb-true}
use lib.Bits.{bit_and}
use lib.Dec.{eqb}
use Rattle.slices.specs.Pick.{pick}
use Rattle.slices.proofs.Pick.{by-pick}
use Rattle.wlan.specs.declared.SdpcmPacket.{SdpcmPacket}
use Rattle.definition.specs.Bus.{Op, words_of, Ans}
use Rattle.definition.specs.Prog.{World, Prog, ret, M, bind, valued, operate}
use Rattle.definition.specs.Device.{status_reads, acknowledge, interrupt_read}
use Rattle.definition.specs.Longest.{most}
use Rattle.definition.proofs.Longest.Most.{low, most-between}
use Rattle.definition.proofs.Longest.Pays.{paid, Pays, p-bind, p-valued}
use Rattle.definition.proofs.Longest.Status.{PacketQ, status_read-pays}

pub status_reads-pays : (k : ℕ) (w : World) → Pays PacketQ low (status_reads k w)
unfolding status_reads operate bind words_of
status_reads-pays zero w = λ n. omega arith
status_reads-pays (suc k) w = (λ n. omega arith, p-valued PacketQ Op.read_status low _ w (λ v. status_read-pays (status_reads k) (status_reads-pays k) v w))

-- an interrupt was read: a word for one
abbrev pub interrupt_left : ℕ → ℕ
interrupt_left n = most (n + 1) - 1

-- where the status is read next
abbrev StatusNext : Unit {0} → ℕ → ℕ
StatusNext u n = low n

-- an interrupt of 0 is not written back, and says that no packet waits; any other is, a word for one
pub interrupt_read-pays : (v : ℕ) (w : World) → Pays PacketQ interrupt_left (interrupt_read v w)
unfolding interrupt_read acknowledge operate bind words_of
interrupt_read-pays v w =
    by-pick (λ (p : Prog (Unit {0})). Pays PacketQ interrupt_left (bind p looked)) (eqb v 0) (λ e. rw (eqb-true v 0 e) (λ n. some n))
    (λ e. (some, λ x. p-bind StatusNext PacketQ (paid (Op.write_interrupt v) x interrupt_left) looked looked-pays (written x) (written-pays x)))
  where
    some : (n : ℕ) → 1 ≤ interrupt_left n
    some n = omega (arith, (most-between (n + 1)).second (omega arith))

    written : Ans → Prog (Unit {0})
    written x = bind (valued x w) (λ m u. ret tt u)

    written-pays : (x : Ans) → Pays StatusNext (paid (Op.write_interrupt v) x interrupt_left) (written x)
    written-pays = p-valued StatusNext (Op.write_interrupt v) interrupt_left (λ m u. ret tt u) w (λ m n. omega (arith, (most-between (n + 1 + 1)).above))

    looked : Unit {0} → M SdpcmPacket
    looked u w = pick (eqb (bit_and v 0x20) 0) (ret SdpcmPacket.None w) (status_reads 1000 w)

    looked-pays : (u : Unit {0}) (w : World) → Pays PacketQ (StatusNext u) (looked u w)
    looked-pays u w = by-pick (Pays PacketQ low) (eqb (bit_and v 0x20) 0) (λ e n. omega arith) (λ e. status_reads-pays 1000 w)
