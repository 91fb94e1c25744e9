use mathlib.Core.List.{[], ◌∷◌}
use Rattle.slices.proofs.Over.{over-append}
use Rattle.entry.proofs.hand.put_result.Goals as goal

pub returns : goal.returns
returns c = rw (c.put_number-2.ensures, c.put_number.ensures) (over-append c.args.res.now 0 (c.args.value ∷ []) (c.args.len ∷ []))
