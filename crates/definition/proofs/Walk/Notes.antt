-- The short form, for what speaks of world and notes alone: an invariant is a course that operations and answers leave as it is.
-- It holds along every list of calls (`walked`).
use mathlib.Core.Path.{◌≡◌, refl, ap, subst, ◌∙◌}
use mathlib.Core.List.{List, [], ◌∷◌}
use mathlib.Core.Bool.{true, false}
use Prim.Native.Nat.{ℕ}
use lib.ListN.{length}
use Rattle.slices.specs.Pick.{pick}
use Rattle.wlan.specs.State.{with_sdpcm}
use Rattle.wlan.specs.declared.Refusal.{Refusal}
use Rattle.definition.specs.Bus.{Bytes}
use Rattle.definition.specs.Prog.{World, world, with_state, with_buf, Note}
use Rattle.definition.specs.Packet.{declared, advance, process_rx}
use Rattle.definition.specs.Device.{landed, faulted, marked}
use Rattle.definition.specs.Send.{free, headed}
use Rattle.definition.specs.Join.{frame_waits, reply_waits}
use Rattle.definition.specs.Calls.{Call}
use Rattle.definition.specs.Run.{Run, run_of, called, shown}
use Rattle.definition.specs.History.{Given, next, folded, rolls_back, counted, Within, Along}
use Rattle.definition.proofs.Bytewise.{Bytewise}
use Rattle.definition.proofs.Walk.Events.{Event, events_of, note_of, all, along, Each}
use Rattle.definition.proofs.Walk.Course.{Course, Changes, Steady, CallEnds}
use Rattle.definition.proofs.Walk.Runs.{run_of-kept, run_of-told}
use Rattle.std.specs.Prelude.{Ok, Err}
use Rattle.wlan.specs.Results.{Outcome}

-- ---- an invariant

pub record Invariant : Type 1 where
  -- the account of the notes, and what a note does to it
  pub Acc : Type 0
  pub step : Note → Acc → Acc
  -- what holds of world and account wherever a tree changes neither by half
  pub Holds : World → Acc → Type 0
  -- what is said of the account after every note, also inside a call that is rolled back
  pub Always : Acc → Type 0

-- each change that the definition makes, and each note where it stands, keeps it
pub record Closed (I : Invariant) : Type 0 where
  pub always : (w : World) (g : I.Acc) → I.Holds w g → I.Always g
  pub changes : Changes I.Holds
  -- what comes is laid from the front
  pub landed : (n : ℕ) (T : Bytes) (w : World) (g : I.Acc) → Bytewise T → I.Holds w g → I.Holds (with_buf w (landed n T w.buf)) g
  pub faulted : (n : ℕ) (w : World) (g : I.Acc) → I.Holds w g → I.Holds (with_buf w (faulted n w.buf)) g
  -- the notes, each with the change that it is a note of
  pub received : (n : ℕ) (w : World) (g : I.Acc) → I.Holds w g → I.Holds w (I.step (Note.received (declared w.buf) n) g)
  pub advanced : (n : ℕ) (w : World) (g : I.Acc) → I.Holds w g
      → I.Holds (with_state (marked true w) (with_sdpcm w.st (process_rx n w.buf (marked true w).st.sdpcm).sdpcm)) (I.step (Note.advanced (advance w.buf w.st.sdpcm)) g)
  pub spent : (channel size : ℕ) (w : World) (g : I.Acc) → free w.st ≡ true → I.Holds w g → I.Holds (headed channel size w) (I.step Note.spent g)
  pub keyed : (w : World) (g : I.Acc) → I.Holds w g → I.Holds w (I.step (Note.key_laid (frame_waits w.st.pending.rx) (reply_waits w.st.pending.ioctl_resp)) g)

-- ---- it is a course

abbrev on_notes : {A : Type 0} → (Note → A → A) → Event → A → A
on_notes f (Event.noted n) g = f n g
on_notes f (Event.logged q) g = g
on_notes f (Event.answered x) g = g

abbrev course_of : Invariant → Course
course_of I =
    record {
      Acc = I.Acc;
      step = on_notes I.step;
      Holds = I.Holds;
      Landed = λ n. I.Holds;
      Owing = λ n. I.Holds;
      Reported = I.Holds;
      Ended = λ x. I.Holds;
      Always = I.Always;
    }

steady : (I : Invariant) → Closed I → Steady (course_of I)
steady I c =
    record {
      always = c.always;
      always-landed = λ n. c.always;
      always-owing = λ n. c.always;
      always-plain = λ q g i h. h;
      always-read = λ n g h. h;
      always-write = λ n p s. c.always;
      always-answered = λ x g h. h;
      changes = c.changes;
      plain = λ q x w g i h. h;
      waited = λ n w g h. h;
      faulted = λ n p. c.faulted n;
      landed = λ n v T w g s h. c.received n _ g (c.landed n T w g s h);
      emptied = λ n w g e. c.changes.mark false w g;
      advanced = λ n w g e. c.advanced n w g;
      spent = c.spent;
      ready = λ n x w g h. h;
      unwritten = λ n w g h. h;
      written = λ n s x w g h. h;
      reporting = λ offset len w g e. c.changes.pending _ w g;
      reported = λ w g h. h;
      ended = λ x w g i h. h;
      keyed = c.keyed;
    }

notes-along : {A : Type 0} (f : Note → A → A) (es : List Event) (g : A) → along (on_notes f) es g ≡ folded f (all note_of es) g
notes-along f [] g = refl
notes-along f (Event.noted n ∷ es) g = notes-along f es (f n g)
notes-along f (Event.logged q ∷ es) g = notes-along f es g
notes-along f (Event.answered x ∷ es) g = notes-along f es g

notes-within : {A : Type 0} (f : Note → A → A) (P : A → Type 0) (es : List Event) (g : A) → Each (on_notes f) P g es → Within f P g (all note_of es)
notes-within f P [] g h = h
notes-within f P (Event.noted n ∷ es) g h = (h.0, notes-within f P es (f n g) h.1)
notes-within f P (Event.logged q ∷ es) g h = notes-within f P es g h.1
notes-within f P (Event.answered x ∷ es) g h = notes-within f P es g h.1

-- ---- along a list of calls

counted-end : (I : Invariant) (o : Outcome) (w : World) (g₀ g : I.Acc) → CallEnds (course_of I) g₀ o w g → I.Holds w (pick (rolls_back o) g₀ g)
counted-end I (Ok x) w g₀ g h = h
counted-end I (Err (Refusal.Driver e)) w g₀ g h = h
counted-end I (Err Refusal.Unrecorded) w g₀ g h = h
counted-end I (Err Refusal.WrongAnswer) w g₀ g h = h
counted-end I (Err Refusal.LogFull) w g₀ g h = h
counted-end I (Err Refusal.BufferLength) w g₀ g h = h

pub record CallKept (I : Invariant) (g : I.Acc) (r : Run) : Type 0 where
  pub law : I.Holds r.world (counted I.step r g)
  pub within : Within I.step I.Always g r.notes

pub call_kept : (I : Invariant) → Closed I → (c : Call) (w : World) (recording : List ℕ) (room : ℕ) (g : I.Acc) → I.Holds w g → CallKept I g (run_of c w recording room)
call_kept I c a w recording room g h =
    let r = run_of a w recording room in
    let es = events_of a w recording room in
    let k = run_of-kept (course_of I) (steady I c) a w recording room g h in
    let e = (run_of-told a w recording room).notes in
    record {
      law = subst (λ x. I.Holds r.world (pick (rolls_back r.outcome) g x)) (notes-along I.step es g ∙ ap (λ ns. folded I.step ns g) e) (counted-end I r.outcome r.world g _ k.law);
      within = subst (Within I.step I.Always g) e (notes-within I.step I.Always es g k.within);
    }

pub walked : (I : Invariant) → Closed I → (cs : List Given) (w : World) (g : I.Acc) → I.Holds w g → Along I.step I.Holds I.Always cs w g
unfolding called shown
walked I closed [] w g h = h
walked I closed (c ∷ cs) w g h =
    let k = call_kept I closed c.call w c.recording (length c.log) g h in
    (h, (k.within, walked I closed cs (next c w) _ k.law))

-- what follows from the invariant between calls
pub along-map : {A : Type 0} (f : Note → A → A) {H K : World → A → Type 0} (P : A → Type 0) → ((w : World) (g : A) → H w g → K w g) → (cs : List Given) (w : World) (g : A) → Along f H P cs w g → Along f K P cs w g
along-map f P m [] w g h = m w g h
along-map f P m (c ∷ cs) w g h = (m w g h.0, (h.1.0, along-map f P m cs (next c w) _ h.1.1))
