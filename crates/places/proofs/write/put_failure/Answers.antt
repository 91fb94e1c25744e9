use borrow.Author.Rules.{rules}
use mathlib.Core.Path.{refl}
use mathlib.Core.List.{[], ◌∷◌}
use Rattle.slices.specs.Le.{le32}
use Rattle.slices.proofs.Over.{run_none, run_more}
use Rattle.places.proofs.Laws.{failure-put}
use Rattle.places.proofs.write.put_failure.Goals as goal

pub returns : goal.returns
returns c =
    let p = c.failure_parts-p.result in
    let r₁ = run_more (p.tag ∷ []) run_none refl c.put_whole.ensures in
    let r₂ = run_more (le32 p.status) r₁ refl (rw c.to_le_bytes.ensures at c.put_whole-2.ensures) in
    let r₃ = run_more (le32 p.reason) r₂ refl (rw c.to_le_bytes-2.ensures at c.put_whole-3.ensures) in
    failure-put c.args.s.now c.requires c.args.x p c.failure_parts-p.ensures (search rules) (search rules) r₃.is
