use mathlib.Core.Path.{ap, ◌∙◌}
use Rattle.slices.specs.Over.{over}
use Rattle.definition.specs.Bus.{Bytes}
use Rattle.payload.proofs.Lay.{le16-low}
use Rattle.payload.proofs.put_low16.Goals as goal

pub returns : goal.returns
returns c =
    let a = c.args in
    c.put_le16.ensures ∙ ap (λ (s : Bytes). over a.part.now a.at s) (le16-low a.n)
