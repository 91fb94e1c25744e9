use mathlib.Core.List.{[]}
use mathlib.Core.Path.{refl}
use Rattle.definition.specs.Request.{ascii, escan, scan_options}
use Rattle.payload.proofs.Lay.{named-is, named_more}
use Rattle.variables.proofs.put_escan.Goals as goal

pub returns : goal.returns
unfolding ascii escan scan_options
returns c =
    let n₁ = named_more _ (named-is (ascii "escan") [] c.put_name.ensures) refl c.put_le32.ensures in
    let n₂ = named_more _ (named_more _ n₁ refl c.put_le32-2.ensures) refl c.fill_zero.ensures in
    let n₃ = named_more _ (named_more _ n₂ refl c.copy_over.ensures) refl c.copy_over-2.ensures in
    (named_more _ (named_more _ n₃ refl c.copy_over-3.ensures) refl c.fill_zero-2.ensures).is
