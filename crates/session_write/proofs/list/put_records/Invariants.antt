use mathlib.Core.Path.{◌≡◌}
use Prim.Native.Nat.{◌≤◌}
use lib.ListN.{length, take}
use Rattle.slices.proofs.Over.{Run}
use Rattle.session_bytes.specs.ListBytes.{records_bytes, EachWhole}
use Rattle.session_write.proofs.list.put_records.Given as goal

abbrev pub invariant-loop-i : goal.invariant-loop-i
invariant-loop-i l = (l.i ≤ 32) × (length l.records ≡ 32) × (length l.initial.out ≡ 1393) × Run l.initial.out 49 (records_bytes (take l.i l.records)) l.out × EachWhole (take l.i l.records)
