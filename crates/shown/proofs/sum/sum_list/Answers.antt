use mathlib.Core.Path.{ap, ◌∙◌}
use Prim.Native.Nat.{ℕ}
use lib.ListN.{take, drop}
use Rattle.shown.specs.Sum.{sum_from}
use Rattle.shown.proofs.Sums.{heard-end}
use Rattle.shown.proofs.sum.sum_list.Goals as goal

pub returns : goal.returns
returns c = c.sum_bytes.ensures ∙ ap (λ (n : ℕ). sum_from 0 (take n (drop 49 c.args.s.now))) (heard-end _ _ _ c.count_in.ensures c.min.ensures)
