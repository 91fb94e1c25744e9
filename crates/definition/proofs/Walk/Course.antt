-- What is followed along a run: an account of its events, in their order, and what holds of world and account where a tree may
-- stand. `Steady` lists each change that the definition makes, with what is known there; what keeps to all of them is kept by every
-- run of every call (`Runs`).
use mathlib.Core.Path.{◌≡◌}
use mathlib.Core.Bool.{Bool, true, false, ◌&&◌}
use Prim.Native.Nat.{ℕ, ◌≤◌}
use lib.Dec.{ltb, eqb}
use lib.ListN.{take}
use Rattle.slices.specs.Over.{over}
use Rattle.slices.specs.Le.{round4}
use Rattle.wlan.specs.State.{with_sdpcm, with_pending, with_scan, with_link, set_id}
use Rattle.wlan.specs.declared.Link.{Link}
use Rattle.wlan.specs.declared.Pending.{Pending}
use Rattle.wlan.specs.declared.ScanMarks.{ScanMarks}
use Rattle.wlan.specs.declared.ScanRecord.{ScanRecord}
use Rattle.wlan.specs.declared.Refusal.{Refusal}
use Rattle.wlan.specs.declared.Success.{Success}
use Rattle.wlan.specs.declared.WlanPollResult.{WlanPollResult}
use Rattle.definition.specs.Bus.{Bytes, Op, Ans, fault, val, Place}
use Rattle.definition.specs.Prog.{World, world, with_state, with_buf, Note}
use Rattle.definition.specs.Packet.{size_in, complement_in, declared, advance, process_rx}
use Rattle.definition.specs.Scan.{heard, cleared}
use Rattle.definition.specs.Device.{landed, faulted, marked}
use Rattle.definition.specs.Send.{free, headed}
use Rattle.definition.specs.Poll.{holding}
use Rattle.definition.specs.Join.{frame_waits, reply_waits}
use Rattle.definition.proofs.Bytewise.{Bytewise}
use Rattle.definition.proofs.Walk.Events.{Event}
use Rattle.std.specs.Prelude.{Ok, Err}
use Rattle.wlan.specs.Results.{Outcome}

-- neither a packet's read nor a write
abbrev pub Plain : Op → Type 0
Plain Op.read_interrupt = Unit {0}
Plain Op.read_status = Unit {0}
Plain (Op.read_packet n) = ⊥
Plain Op.read_clock = Unit {0}
Plain Op.read_tick = Unit {0}
Plain (Op.write_packet p secret) = ⊥
Plain (Op.write_interrupt v) = Unit {0}
Plain Op.frame_control = Unit {0}
Plain (Op.wait ns) = Unit {0}

-- all but poll's frame
abbrev pub Other : Success → Type 0
Other Success.Done = Unit {0}
Other (Success.Polled WlanPollResult.None) = Unit {0}
Other (Success.Polled WlanPollResult.Rx) = ⊥
Other (Success.Polled (WlanPollResult.ConnectFailed f)) = Unit {0}
Other (Success.Taken n) = Unit {0}
Other (Success.Mac n) = Unit {0}
Other (Success.Word n) = Unit {0}

pub record Course : Type 1 where
  -- the account of the events so far, and what an event does to it
  pub Acc : Type 0
  pub step : Event → Acc → Acc
  -- wherever a tree has done nothing by half
  pub Holds : World → Acc → Type 0
  -- a packet of so many bytes has landed, and is not yet read
  pub Landed : ℕ → World → Acc → Type 0
  -- a number is spent on a packet of this size, and it is not yet written
  pub Owing : ℕ → World → Acc → Type 0
  -- poll has a frame to report, and ends
  pub Reported : World → Acc → Type 0
  -- where a call has given this
  pub Ended : Success → World → Acc → Type 0
  -- after every event, also inside a call that is rolled back
  pub Always : Acc → Type 0

-- after an operation and its answer
abbrev pub answering : (C : Course) → Op → Ans → C.Acc → C.Acc
answering C q x g = C.step (Event.answered x) (C.step (Event.logged q) g)

abbrev pub noting : (C : Course) → Note → C.Acc → C.Acc
noting C n g = C.step (Event.noted n) g

-- how a call ended; g₀: at entry, which 8, 9, 12 and 13 go back to
abbrev pub CallEnds : (C : Course) → C.Acc → Outcome → World → C.Acc → Type 0
CallEnds C g₀ (Ok x) w g = C.Ended x w g
CallEnds C g₀ (Err (Refusal.Driver e)) w g = C.Holds w g
CallEnds C g₀ (Err Refusal.Unrecorded) w g = C.Holds w g₀
CallEnds C g₀ (Err Refusal.WrongAnswer) w g = C.Holds w g₀
CallEnds C g₀ (Err Refusal.LogFull) w g = C.Holds w g₀
CallEnds C g₀ (Err Refusal.BufferLength) w g = C.Holds w g₀

-- 'size and complement both 0'
abbrev pub empty : Bytes → Bool
empty b = eqb (size_in b) 0 && eqb (complement_in b) 0

-- ---- each change that the definition makes

-- of the world alone
pub record Changes {A : Type 0} (Holds : World → A → Type 0) : Type 0 where
  -- the groups of the state
  pub link : (x : Link) (w : World) (g : A) → Holds w g → Holds (with_state w (with_link w.st x)) g
  pub scan : (x : ScanMarks) (w : World) (g : A) → Holds w g → Holds (with_state w (with_scan w.st x)) g
  pub pending : (x : Pending) (w : World) (g : A) → Holds w g → Holds (with_state w (with_pending w.st x)) g
  pub mark : (b : Bool) (w : World) (g : A) → Holds w g → Holds (marked b w) g
  pub id : (n : ℕ) (w : World) (g : A) → Holds w g → Holds (with_state w (with_sdpcm w.st (set_id w.st.sdpcm n))) g
  -- the scan list
  pub heard : (r : ScanRecord) (w : World) (g : A) → Holds w g → Holds (world w.st w.buf (heard w.list r)) g
  pub cleared : (w : World) (g : A) → Holds w g → Holds (world w.st w.buf (cleared w.list)) g
  -- the work buffer: requests, replies and frames are laid behind the header
  pub laid : (at : ℕ) (s : Bytes) (w : World) (g : A) → 12 ≤ at → Holds w g → Holds (with_buf w (over w.buf at s)) g

-- what is said of the account alone
pub unchanged : {A : Type 0} (P : A → Type 0) → Changes (λ w. P)
unchanged P =
    record {
      link = λ x w g h. h;
      scan = λ x w g h. h;
      pending = λ x w g h. h;
      mark = λ b w g h. h;
      id = λ n w g h. h;
      heard = λ r w g h. h;
      cleared = λ w g h. h;
      laid = λ at s w g i h. h;
    }

pub record Steady (C : Course) : Type 0 where
  pub always : (w : World) (g : C.Acc) → C.Holds w g → C.Always g
  pub always-landed : (n : ℕ) (w : World) (g : C.Acc) → C.Landed n w g → C.Always g
  pub always-owing : (n : ℕ) (w : World) (g : C.Acc) → C.Owing n w g → C.Always g
  pub always-plain : (q : Op) (g : C.Acc) → Plain q → C.Always g → C.Always (C.step (Event.logged q) g)
  pub always-read : (n : ℕ) (g : C.Acc) → C.Always g → C.Always (C.step (Event.logged (Op.read_packet n)) g)
  pub always-write : (n : ℕ) (p : Bytes) (secret : Place) (w : World) (g : C.Acc) → C.Owing n w g → C.Always (C.step (Event.logged (Op.write_packet p secret)) g)
  pub always-answered : (x : Ans) (g : C.Acc) → C.Always g → C.Always (C.step (Event.answered x) g)
  pub changes : Changes C.Holds
  -- operations and their answers
  pub plain : (q : Op) (x : Ans) (w : World) (g : C.Acc) → Plain q → C.Holds w g → C.Holds w (answering C q x g)
  pub waited : (ns : ℕ) (w : World) (g : C.Acc) → C.Holds w g → C.Holds w (C.step (Event.logged (Op.wait ns)) g)
  -- a packet comes
  pub faulted : (n p : ℕ) (w : World) (g : C.Acc) → C.Holds w g → C.Holds (with_buf w (faulted n w.buf)) (answering C (Op.read_packet n) (fault p) g)
  pub landed : (n v : ℕ) (T : Bytes) (w : World) (g : C.Acc) → Bytewise T → C.Holds w g
      → C.Landed n (with_buf w (landed n T w.buf)) (noting C (Note.received (declared (landed n T w.buf)) n) (answering C (Op.read_packet n) (val v T) g))
  pub emptied : (n : ℕ) (w : World) (g : C.Acc) → empty w.buf ≡ true → C.Landed n w g → C.Holds (marked false w) g
  pub advanced : (n : ℕ) (w : World) (g : C.Acc) → empty w.buf ≡ false → C.Landed n w g
      → C.Holds (with_state (marked true w) (with_sdpcm w.st (process_rx n w.buf (marked true w).st.sdpcm).sdpcm)) (noting C (Note.advanced (advance w.buf w.st.sdpcm)) g)
  -- a packet goes: the number is spent, the status read until it is ready, the packet written; or the call ends before
  pub spent : (channel size : ℕ) (w : World) (g : C.Acc) → free w.st ≡ true → C.Holds w g → C.Owing size (headed channel size w) (noting C Note.spent g)
  pub ready : (size : ℕ) (x : Ans) (w : World) (g : C.Acc) → C.Owing size w g → C.Owing size w (answering C Op.read_status x g)
  pub unwritten : (size : ℕ) (w : World) (g : C.Acc) → C.Owing size w g → C.Holds w g
  pub written : (size : ℕ) (secret : Place) (x : Ans) (w : World) (g : C.Acc) → C.Owing size w g → C.Holds w (answering C (Op.write_packet (take (round4 size) w.buf) secret) x g)
  -- poll reports a frame; or a call gives anything else
  pub reporting : (offset len : ℕ) (w : World) (g : C.Acc) → ltb len 14 ≡ false → C.Holds w g → C.Reported (holding offset len w) g
  pub reported : (w : World) (g : C.Acc) → C.Reported w g → C.Ended (Success.Polled WlanPollResult.Rx) w g
  pub ended : (x : Success) (w : World) (g : C.Acc) → Other x → C.Holds w g → C.Ended x w g
  pub keyed : (w : World) (g : C.Acc) → C.Holds w g → C.Holds w (noting C (Note.key_laid (frame_waits w.st.pending.rx) (reply_waits w.st.pending.ioctl_resp)) g)
