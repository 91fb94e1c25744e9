-- A call by its value: the exported call's equation.
use mathlib.Core.Path.{◌≡◌, refl}
use mathlib.Core.Bool.{Bool, true, false}
use mathlib.Core.List.{List, []}
use Prim.Native.Nat.{ℕ}
use lib.ListN.{length}
use borrow.Author.Tests.{eq-eqb, ne_eqb}
use Rattle.slices.specs.Pick.{pick}
use Rattle.slices.proofs.Over.{over-nil}
use Rattle.wlan.specs.declared.Refusal.{Refusal}
use Rattle.definition.specs.Bus.{log_of}
use Rattle.definition.specs.Prog.{World}
use Rattle.definition.specs.Calls.{Call}
use Rattle.definition.specs.Run.{called, shown}
use Rattle.going.specs.declared.CallEnd.{CallEnd}
use Rattle.going.specs.Onward.{end_of}
use Rattle.lent_calls.specs.declared.WifiCall.{WifiCall}
use Rattle.lent_calls.specs.Lent.{call_of, has_output, output_of, called_on}
use Rattle.std.specs.Prelude.{Err}

module _ (c : WifiCall) (r : CallEnd) (w : World) (a b rec log log₀ buf out after : List ℕ) where
  -- what is to be shown of a call
  abbrev Goal : List ℕ → Type 0
  Goal o = (end_of r log buf (output_of c o) ≡ called (call_of c a b (length out)) w rec log₀ (output_of c out)) × (o ≡ pick (has_output c) o out)

  -- a call without an output
  pub plainly : (d : WifiCall) (k : Call) → c ≡ d → has_output d ≡ false → call_of d a b (length out) ≡ k → end_of r log buf [] ≡ called k w rec log₀ [] → Goal out
  plainly d k e h ek p = (rw (e, h, ek) p, rw (e, h))

  pub takes : c ≡ WifiCall.GetRxBuf → end_of r log buf after ≡ called (Call.get_rx_buf (length out)) w rec log₀ out → Goal after
  unfolding has_output call_of
  takes e p = (rw e p, rw e)

-- a table of 32 records, and another
pub on-32 : (n : ℕ) (k : Call) (w : World) (rec log out : List ℕ) → n ≡ 32 → called k w rec log out ≡ called_on n k w rec log out
unfolding called_on
on-32 n k w rec log out h = rw (eq-eqb n 32 h)

pub off-32 : (n : ℕ) (k : Call) (w : World) (rec log out : List ℕ) → (n ≡ 32 → ⊥)
    → end_of (record { outcome = Err Refusal.BufferLength; st = w.st; list = w.list; len = 0 }) log w.buf out ≡ called_on n k w rec log out
unfolding called_on shown log_of
off-32 n k w rec log out h = rw (ne_eqb n 32 h, over-nil log 0, over-nil out 0)

pub unwritten : (t : Bool) (out : List ℕ) → out ≡ pick t out out
unwritten true out = refl
unwritten false out = refl
