use mathlib.Core.Path.{◌∙◌}
use Rattle.payload.proofs.Lay.{over-filled}
use Rattle.payload.proofs.put_filled.Goals as goal

pub returns : goal.returns
returns c =
    c.copy_over.ensures ∙ rw c.fill_zero.ensures (over-filled _ _ c.args.n c.args.s.now)
