-- A call that ended, by the tree that it began with.
use mathlib.Core.Path.{◌≡◌, refl, ◌∙◌}
use mathlib.Core.List.{List, []}
use Prim.Native.Nat.{ℕ}
use lib.ListN.{length, drop}
use Rattle.wlan.specs.declared.Refusal.{Refusal}
use Rattle.wlan.specs.declared.ScanList.{ScanList}
use Rattle.wlan.specs.declared.State.{State}
use Rattle.definition.specs.Bus.{Bytes}
use Rattle.definition.specs.Event.{event_of}
use Rattle.definition.specs.Prog.{World, world}
use Rattle.definition.specs.Calls.{Call, call}
use Rattle.definition.specs.Run.{called, run_of}
use Rattle.control.specs.Meaning.{call_shown}
use Rattle.effects.specs.Args.{args_of}
use Rattle.jobs.specs.Jobs.{Begun, Begins}
use Rattle.going.specs.Onward as to
use Rattle.going.proofs.Laws as law
use Rattle.std.specs.Prelude.{Err}

called_is : (c : Call) (w : World) (rec log : List ℕ) → to.called_by w rec log (call c w) ≡ called c w rec log []
unfolding to.called_by called run_of
called_is c w rec log = refl

module _ (st : State) (buf : Bytes) (l : ScanList) (rec log : List ℕ) (c : Call) where
  pub called-13 : (length buf ≡ 2048 → ⊥) → to.end_of (record { outcome = Err Refusal.BufferLength; st = st; list = l; len = 0 }) log buf [] ≡ called c (world st buf l) rec log []
  called-13 h = law.called-13 (world st buf l) rec log (call c (world st buf l)) h ∙ called_is c (world st buf l) rec log

  -- what the first run went on to is the call
  pub called-from : (b : Begun) (first second : Bytes) → length buf ≡ 2048 → Begins c first second st b
      → to.go (world st buf l) (drop 0 rec) log 0 (call_shown (args_of b.job first second) b.step (event_of [] 0) (world st buf l)) ≡ called c (world st buf l) rec log []
  called-from b first second h begins =
      law.called-from (world st buf l) rec log (call c (world st buf l)) _ h (begins buf l) ∙ called_is c (world st buf l) rec log
