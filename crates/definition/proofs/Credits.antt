-- Credits are never overdrawn.
pub mod Witness
use mathlib.Core.Path.{◌≡◌, refl, sym, ◌∙◌}
use mathlib.Core.Bool.{Bool, true, false, ◌&&◌, not, true≢false}
use Prim.Native.Nat.{ℕ, ◌+◌, ◌-◌, ◌%◌, ◌<◌}
use native.Mathlib.Omega.{arith}
use borrow.Author.Tests.{eqb-false}
use lib.Dec.{eqb}
use lib.ListN.{take, drop, replicate}
use Rattle.slices.specs.Le.{le32, round4}
use Rattle.slices.proofs.Over.{get_or-over-before}
use Rattle.wlan.specs.State.{fresh, with_sdpcm}
use Rattle.wlan.specs.declared.Sdpcm.{Sdpcm}
use Rattle.wlan.specs.declared.State.{State}
use Rattle.definition.specs.Bus.{Bytes}
use Rattle.definition.specs.Prog.{World, world, with_state, with_buf, Note}
use Rattle.definition.specs.Packet.{is_packet, credits, credit_in, advance, accepted, process_rx, header}
use Rattle.definition.specs.Device.{landed, faulted, marked}
use Rattle.definition.specs.Send.{free}
use Rattle.definition.specs.Credits.{Tally, tally, count, Granted, Covered, NeverOverdrawn}
use Rattle.definition.proofs.Bytewise.{byte-over, bytewise-append, bytewise-take, bytewise-drop, bytewise-zeros, bytewise-le32}
use Rattle.definition.proofs.Walk.Notes.{Closed, walked, along-map}

-- where `credit_in` reads
abbrev place : ℕ
place = 9

-- credit and sequence are the counts modulo 256, what is spent was granted, and a credit that a read does not bring is a byte
record LawOf (credit seq : ℕ) (buf : Bytes) (g : Tally) : Type 0 where
  credit-is : credit ≡ (1 + g.advances) % 256
  seq-is : seq ≡ g.spent % 256
  granted : Granted g
  byte : credit_in buf < 256

abbrev Law : World → Tally → Type 0
Law w g = LawOf w.st.sdpcm.last_bus_data_credit w.st.sdpcm.packet_tx_seq w.buf g

-- another buffer
buffer : (b : Bytes) (w : World) (g : Tally) → credit_in b < 256 → Law w g → Law (with_buf w b) g
buffer b w g h l = record { credit-is = l.credit-is; seq-is = l.seq-is; granted = l.granted; byte = h }

-- a packet: the stored credit moves by the advance that is noted
credit-moves : (m : ℕ) (b : Bytes) (s : Sdpcm) (n : ℕ) → s.last_bus_data_credit ≡ (1 + n) % 256 → credit_in b < 256 → (p c : Bool) → is_packet b ≡ p → credits b s ≡ c
    → (process_rx m b s).sdpcm.last_bus_data_credit ≡ (1 + (n + advance b s)) % 256
unfolding process_rx accepted advance
credit-moves m b s n h byte true true e f = rw (e, f) (omega (arith, h, byte))
credit-moves m b s n h byte true false e f = rw (e, f) (omega (arith, h))
credit-moves m b s n h byte false c e f = rw e (omega (arith, h))

seq-stays : (m : ℕ) (b : Bytes) (s : Sdpcm) (p c : Bool) → is_packet b ≡ p → credits b s ≡ c → (process_rx m b s).sdpcm.packet_tx_seq ≡ s.packet_tx_seq
unfolding process_rx accepted
seq-stays m b s true true e f = rw (e, f) refl
seq-stays m b s true false e f = rw (e, f) refl
seq-stays m b s false c e f = rw e refl

process-law : (m : ℕ) (w : World) (g : Tally) → Law w g
    → Law (with_state (marked true w) (with_sdpcm w.st (process_rx m w.buf (marked true w).st.sdpcm).sdpcm)) (count (Note.advanced (advance w.buf w.st.sdpcm)) g)
unfolding advance
process-law m w g l =
    let s = (marked true w).st.sdpcm in
    record {
      credit-is = credit-moves m w.buf s g.advances l.credit-is l.byte (is_packet w.buf) (credits w.buf s) refl refl;
      seq-is = seq-stays m w.buf s (is_packet w.buf) (credits w.buf s) refl refl ∙ l.seq-is;
      granted = omega (arith, l.granted);
      byte = l.byte;
    }

-- a number is spent only where credit and sequence differ
differ : (s : State) → free s ≡ true → s.sdpcm.last_bus_data_credit ≡ s.sdpcm.packet_tx_seq → ⊥
unfolding free
differ s h = go (eqb s.sdpcm.wlan_flow_control 0) (eqb s.sdpcm.last_bus_data_credit s.sdpcm.packet_tx_seq) refl h
  where
    go : (x y : Bool) → eqb s.sdpcm.last_bus_data_credit s.sdpcm.packet_tx_seq ≡ y → (x && not y) ≡ true → s.sdpcm.last_bus_data_credit ≡ s.sdpcm.packet_tx_seq → ⊥
    go true true e h = absurd (true≢false (sym h))
    go false true e h = absurd (true≢false (sym h))
    go x false e h = eqb-false _ _ e

spent-granted : (w : World) (g : Tally) → free w.st ≡ true → Law w g → Granted (count Note.spent g)
spent-granted w g f l =
    let d : w.st.sdpcm.last_bus_data_credit ≡ w.st.sdpcm.packet_tx_seq → ⊥ = differ w.st f in
    omega (arith, d, l.credit-is, l.seq-is, l.granted)

closed : Closed (record { Acc = Tally; step = count; Holds = Law; Always = Granted })
unfolding landed faulted header
closed =
    record {
      always = λ w g l. l.granted;
      changes =
          record {
            link = λ x w g l. l;
            scan = λ x w g l. l;
            pending = λ x w g l. l;
            mark = λ b w g l. l;
            id = λ n w g l. l;
            heard = λ r w g l. l;
            cleared = λ w g l. l;
            laid = λ at s w g i l. buffer _ w g (rw (get_or-over-before w.buf at s place 0 (omega (arith, i))) l.byte) l;
          };
      landed = λ n T w g i l. buffer _ w g (byte-over w.buf _ place l.byte (bytewise-append (take n (drop 4 T)) (drop n T) (bytewise-take n (drop 4 T) (bytewise-drop 4 T i)) (bytewise-drop n T i) place)) l;
      faulted = λ n w g l. buffer _ w g (byte-over w.buf _ place l.byte (bytewise-append (le32 (0x60000000 + n)) (replicate (round4 n) 0) (bytewise-le32 (0x60000000 + n)) (bytewise-zeros (round4 n)) place)) l;
      received = λ n w g l. l;
      advanced = process-law;
      spent = λ channel size w g f l.
          record {
            credit-is = l.credit-is;
            seq-is = omega (arith, l.seq-is);
            granted = spent-granted w g f l;
            byte = byte-over w.buf (header size w.st.sdpcm.packet_tx_seq channel) place l.byte (omega arith);
          };
      keyed = λ w g l. l;
    }

covered : (w : World) (g : Tally) → Law w g → Covered w g
covered w g l = record { granted = l.granted; gap = omega (arith, l.credit-is, l.seq-is, l.granted) }

pub never-overdrawn : NeverOverdrawn
never-overdrawn cs b l h =
    along-map count Granted covered cs (world fresh b l) (tally 0 0)
    (walked _ closed cs (world fresh b l) (tally 0 0) (record { credit-is = refl; seq-is = refl; granted = omega arith; byte = h }))
