-- Lists of records: what lies in a table.
use mathlib.Core.Path.{◌≡◌, refl, sym, ap, ◌∙◌}
use mathlib.Core.List.{List, [], ◌∷◌, ◌++◌}
use Prim.Native.Nat.{ℕ, ◌+◌, min}
use native.Mathlib.Omega.{arith}
use lib.ListN.{length, take, drop}
use lib.Seq.{length-take-le}
use Rattle.slices.specs.Over.{over}
use Rattle.slices.proofs.Over.{over-whole, over-parts, over-enough}
use Rattle.wlan.specs.declared.ScanRecord.{ScanRecord}
use Rattle.wlan.specs.declared.ScanList.{ScanList}
use Rattle.scan_table.specs.Table.{empty_records, list_of, laid}

-- as much of s as fits stands over the front of d
pub front_laid : {A : Type 0} (d s : List A) (n : ℕ) → n ≡ min (length s) (length d) → take n s ++ drop n d ≡ over d 0 s
front_laid d s n e =
    let l : length (take n s) ≡ n = length-take-le n s (omega arith) in
    let p : over d 0 (take n s) ≡ take n s ++ drop (0 + length (take n s)) d = over-parts d 0 (take n s) (omega arith) in
    let m : 0 + length (take n s) ≡ n = omega arith in
    sym (rw m at p) ∙ over-enough d 0 s n (omega arith)

-- what was taken from a table, laid back, leaves it as it was
pub laid-back : (ys z : List ScanRecord) → over ys 0 (over z 0 ys) ≡ ys
unfolding over
laid-back [] z = refl
laid-back (y ∷ ys) [] = refl
laid-back (y ∷ ys) (x ∷ z) = ap (λ (l : List ScanRecord). y ∷ l) (laid-back ys z)

empty-32 : length empty_records ≡ 32
unfolding empty_records
empty-32 = refl

module _ (ys : List ScanRecord) (l : ScanList) (h : length ys ≡ 32) (size : length l.records ≡ 32) where
  pub all_laid : over empty_records 0 (laid ys l) ≡ l.records
  all_laid =
      ap (λ (u : List ScanRecord). over empty_records 0 u) (over-whole ys l.records (size ∙ sym h)) ∙ over-whole empty_records l.records (size ∙ sym empty-32)

  -- the list that is laid in a table of 32 records is the list that lies there
  pub in_table : list_of (laid ys l) l.count ≡ l
  in_table = λ i. record { records = all_laid i; count = l.count }
