use mathlib.Core.Path.{ap, ◌∙◌}
use Rattle.slices.specs.Over.{over}
use Rattle.definition.specs.Bus.{Bytes}
use Rattle.payload.proofs.Lay.{le32-low}
use Rattle.payload.proofs.put_low32.Goals as goal

pub returns : goal.returns
returns c =
    let a = c.args in
    c.put_le32.ensures ∙ ap (λ (s : Bytes). over a.part.now a.at s) (le32-low a.n)
