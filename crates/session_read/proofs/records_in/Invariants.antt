use mathlib.Core.Path.{◌≡◌}
use Prim.Native.Nat.{◌≤◌}
use lib.ListN.{length, drop}
use Rattle.slices.proofs.Over.{Laid}
use Rattle.session_bytes.specs.ListBytes.{records_from}
use Rattle.session_read.proofs.records_in.Given as goal

abbrev pub invariant-loop-i : goal.invariant-loop-i
invariant-loop-i l = (l.i ≤ 32) × (length l.initial.l ≡ 32) × (length l.p ≡ 1352) × Laid l.initial.l 0 (records_from 32 (drop 8 l.p)) l.i l.l
