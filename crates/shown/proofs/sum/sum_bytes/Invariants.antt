use Prim.Native.Nat.{◌≤◌, ◌<◌}
use mathlib.Core.Path.{◌≡◌}
use lib.ListN.{length, take}
use Rattle.shown.specs.Sum.{limit, sum_from}
use Rattle.shown.proofs.sum.sum_bytes.Given as goal

abbrev pub invariant-loop-b : goal.invariant-loop-b
invariant-loop-b l = (l.b-index ≤ length l.s) × (l.t < limit) × (l.t ≡ sum_from 0 (take l.b-index l.s))
