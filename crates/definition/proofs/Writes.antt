-- A call writes no more packets than it spends sequence numbers, also one that is rolled back.
use mathlib.Core.Path.{◌≡◌, refl, ap, ◌∙◌}
use mathlib.Core.List.{List, [], ◌∷◌}
use Prim.Native.Nat.{ℕ, ◌+◌, ◌≤◌}
use native.Mathlib.Omega.{arith}
use Rattle.definition.specs.Bus.{Op}
use Rattle.definition.specs.Prog.{World}
use Rattle.definition.specs.Calls.{Call}
use Rattle.definition.specs.Run.{run_of}
use Rattle.definition.specs.History.{folded}
use Rattle.definition.specs.Credits.{Tally, tally, count}
use Rattle.definition.proofs.Walk.Events.{Event, events_of, note_of, operation_of, all, along}
use Rattle.definition.proofs.Walk.Course.{Course, unchanged, Steady, Plain}
use Rattle.definition.proofs.Walk.Runs.{each-end, run_of-kept, run_of-told}

-- ---- what is counted

abbrev pub one_write : Op → ℕ
one_write Op.read_interrupt = 0
one_write Op.read_status = 0
one_write (Op.read_packet n) = 0
one_write Op.read_clock = 0
one_write Op.read_tick = 0
one_write (Op.write_packet p secret) = 1
one_write (Op.write_interrupt v) = 0
one_write Op.frame_control = 0
one_write (Op.wait ns) = 0

-- the packets that were written
abbrev pub writes : List Op → ℕ
writes [] = 0
writes (q ∷ l) = one_write q + writes l

-- ---- the course

record Account : Type 0 where
  wrote : ℕ
  notes : Tally

abbrev step : Event → Account → Account
step (Event.noted n) g = record { wrote = g.wrote; notes = count n g.notes }
step (Event.logged q) g = record { wrote = g.wrote + one_write q; notes = g.notes }
step (Event.answered x) g = g

abbrev Paid : Account → Type 0
Paid g = g.wrote ≤ g.notes.spent

abbrev paying : Course
paying =
    record {
      Acc = Account;
      step = step;
      Holds = λ w. Paid;
      Landed = λ n w. Paid;
      Owing = λ n w g. g.wrote + 1 ≤ g.notes.spent;
      Reported = λ w. Paid;
      Ended = λ x w. Paid;
      Always = Paid;
    }

none : (q : Op) → Plain q → one_write q ≡ 0
none Op.read_interrupt h = refl
none Op.read_status h = refl
none (Op.read_packet n) h = refl
none Op.read_clock h = refl
none Op.read_tick h = refl
none (Op.write_packet p secret) h = absurd h
none (Op.write_interrupt v) h = refl
none Op.frame_control h = refl
none (Op.wait ns) h = refl

steady : Steady paying
steady =
    record {
      always = λ w g h. h;
      always-landed = λ n w g h. h;
      always-owing = λ n w g h. omega (arith, h);
      always-plain = λ q g i h. omega (arith, h, none q i);
      always-read = λ n g h. omega (arith, h);
      always-write = λ n p s w g h. h;
      always-answered = λ x g h. h;
      changes = unchanged Paid;
      plain = λ q x w g i h. omega (arith, h, none q i);
      waited = λ n w g h. omega (arith, h);
      faulted = λ n p w g h. omega (arith, h);
      landed = λ n v T w g s h. omega (arith, h);
      emptied = λ n w g e h. h;
      advanced = λ n w g e h. omega (arith, h);
      spent = λ c n w g f h. omega (arith, h);
      ready = λ n x w g h. omega (arith, h);
      unwritten = λ n w g h. omega (arith, h);
      written = λ n s x w g h. h;
      reporting = λ offset len w g e h. h;
      reported = λ w g h. h;
      ended = λ x w g i h. h;
      keyed = λ w g h. omega (arith, h);
    }

-- ---- of a run

wrote-all : (es : List Event) (g : Account) → (along step es g).wrote ≡ g.wrote + writes (all operation_of es)
wrote-all [] g = omega arith
wrote-all (Event.noted n ∷ es) g = wrote-all es (step (Event.noted n) g)
wrote-all (Event.logged q ∷ es) g = omega (arith, wrote-all es (step (Event.logged q) g))
wrote-all (Event.answered x ∷ es) g = wrote-all es g

notes-all : (es : List Event) (g : Account) → (along step es g).notes ≡ folded count (all note_of es) g.notes
notes-all [] g = refl
notes-all (Event.noted n ∷ es) g = notes-all es (step (Event.noted n) g)
notes-all (Event.logged q ∷ es) g = notes-all es (step (Event.logged q) g)
notes-all (Event.answered x ∷ es) g = notes-all es g

pub written-spent : (c : Call) (w : World) (recording : List ℕ) (room : ℕ) → writes (run_of c w recording room).ops ≤ (folded count (run_of c w recording room).notes (tally 0 0)).spent
written-spent c w recording room =
    let g : Account = record { wrote = 0; notes = tally 0 0 } in
    let es = events_of c w recording room in
    let h : Paid (along step es g) = each-end step Paid es g (run_of-kept paying steady c w recording room g (omega arith)).within in
    let t = run_of-told c w recording room in
    let s : (along step es g).notes.spent ≡ (folded count (run_of c w recording room).notes (tally 0 0)).spent = ap (λ (n : Tally). n.spent) (notes-all es g ∙ ap (λ ns. folded count ns (tally 0 0)) t.notes) in
    omega (arith, h, wrote-all es g, ap writes t.ops, s)
