-- Every call leaves the work buffer as long as it was.
use mathlib.Core.Path.{◌≡◌, refl, ◌∙◌}
use mathlib.Core.List.{List}
use Prim.Native.Nat.{ℕ}
use lib.ListN.{length}
use Rattle.slices.proofs.Over.{length_over}
use Rattle.definition.specs.Bus.{Bytes}
use Rattle.definition.specs.Prog.{World}
use Rattle.definition.specs.Device.{landed, faulted}
use Rattle.definition.specs.Calls.{Call}
use Rattle.definition.specs.Run.{called, shown}
use Rattle.definition.proofs.Walk.Notes.{Invariant, Closed, call_kept}

abbrev sized : ℕ → Invariant
sized n = record { Acc = Unit {0}; step = λ m g. g; Holds = λ w g. length w.buf ≡ n; Always = λ g. Unit {0} }

closed : (n : ℕ) → Closed (sized n)
unfolding landed faulted
closed n =
    record {
      always = λ w g h. tt;
      changes =
          record {
            link = λ x w g h. h;
            scan = λ x w g h. h;
            pending = λ x w g h. h;
            mark = λ b w g h. h;
            id = λ m w g h. h;
            heard = λ r w g h. h;
            cleared = λ w g h. h;
            laid = λ at s w g i h. length_over w.buf at s ∙ h;
          };
      landed = λ m T w g i h. length_over w.buf 0 _ ∙ h;
      faulted = λ m w g h. length_over w.buf 0 _ ∙ h;
      received = λ m w g h. h;
      advanced = λ m w g h. h;
      spent = λ channel size w g i h. length_over w.buf 0 _ ∙ h;
      keyed = λ w g h. h;
    }

pub buffer-length : (c : Call) (w : World) (recording log : List ℕ) (out : Bytes) → length (called c w recording log out).buf ≡ length w.buf
unfolding called shown
buffer-length c w recording log out = (call_kept (sized (length w.buf)) (closed (length w.buf)) c w recording (length log) tt refl).law
