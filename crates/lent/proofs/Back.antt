-- The list that a call hands back lies in the table.
use mathlib.Core.Path.{◌≡◌, refl, sym, ap, ◌∙◌}
use mathlib.Core.Bool.{Bool, true, false}
use mathlib.Core.List.{List}
use Prim.Native.Nat.{ℕ}
use lib.Dec.{eqb}
use lib.ListN.{length}
use borrow.Author.Tests.{eqb-true, ne_eqb}
use Rattle.slices.specs.Over.{over}
use Rattle.wlan.specs.declared.ScanRecord.{ScanRecord}
use Rattle.wlan.specs.declared.ScanList.{ScanList}
use Rattle.wlan.specs.declared.State.{State}
use Rattle.definition.specs.Prog.{world}
use Rattle.definition.specs.Calls.{Call}
use Rattle.definition.specs.Run.{End, shown}
use Rattle.going.specs.declared.CallEnd.{CallEnd}
use Rattle.going.specs.Onward.{end_of}
use Rattle.scan_table.specs.Table.{empty_records, list_of, laid}
use Rattle.scan_table.proofs.Laws.{laid-back, all_laid}
use Rattle.lent_calls.specs.declared.LentEnd.{LentEnd}
use Rattle.lent_calls.specs.Lent.{called_on, with_list}

-- what is handed back of a call's end
abbrev pub Ended : CallEnd → LentEnd → Type 0
Ended z r = (r.outcome ≡ z.outcome) × ((r.st ≡ z.st) × ((r.count ≡ z.list.count) × (r.len ≡ z.len)))

module _ (ys : List ScanRecord) (n : ℕ) (st : State) (buf : List ℕ) (k : Call) (rec log out : List ℕ) (z : CallEnd) (r : LentEnd) (ts : List ScanRecord) (xs bs os : List ℕ) where
  -- in another table the list is as it was
  other : eqb (length ys) 32 ≡ false → end_of z xs bs os ≡ called_on (length ys) k (world st buf (list_of ys n)) rec log out → z.list ≡ list_of ys n
  unfolding called_on shown
  other h p = rw h at (ap (λ (e : End). e.list) p)

  left : eqb (length ys) 32 ≡ false → end_of z xs bs os ≡ called_on (length ys) k (world st buf (list_of ys n)) rec log out → ts ≡ laid ys z.list → ts ≡ ys
  left h p et = et ∙ (ap (laid ys) (other h p) ∙ laid-back ys empty_records)

  same : (t : Bool) → eqb (length ys) 32 ≡ t → end_of z xs bs os ≡ called_on (length ys) k (world st buf (list_of ys n)) rec log out → ts ≡ laid ys z.list → length z.list.records ≡ 32
      → over empty_records 0 ts ≡ z.list.records
  same true h p et size = ap (λ (u : List ScanRecord). over empty_records 0 u) et ∙ all_laid ys z.list (eqb-true _ 32 h) size
  same false h p et size = ap (λ (u : List ScanRecord). over empty_records 0 u) (left h p et) ∙ ap (λ (l : ScanList). l.records) (sym (other h p))

  pub back : end_of z xs bs os ≡ called_on (length ys) k (world st buf (list_of ys n)) rec log out → ts ≡ laid ys z.list → Ended z r → length z.list.records ≡ 32
      → (end_of (with_list r ts) xs bs os ≡ called_on (length ys) k (world st buf (list_of ys n)) rec log out) × ((length ys ≡ 32 → ⊥) → ts ≡ ys)
  back p et er size =
      let e : over empty_records 0 ts ≡ z.list.records = same (eqb (length ys) 32) refl p et size in
      let w : with_list r ts ≡ z = λ i. record { outcome = er.0 i; st = er.1.0 i; list = record { records = e i; count = er.1.1.0 i }; len = er.1.1.1 i } in
      (ap (λ (y : CallEnd). end_of y xs bs os) w ∙ p, λ h. left (ne_eqb _ 32 h) p et)
