use borrow.Author.Rules.{rules}
use mathlib.Core.Path.{refl}
use mathlib.Core.List.{[], ◌∷◌}
use Rattle.state_bytes.specs.StateBytes.{le64}
use Rattle.slices.proofs.Over.{run_none, run_more}
use Rattle.places.proofs.Laws.{tick-put}
use Rattle.places.proofs.write.put_tick.Goals as goal

pub returns : goal.returns
returns c =
    let p = c.tick_parts-p.result in
    let r₁ = run_more (p.tag ∷ []) run_none refl c.put_whole.ensures in
    let r₂ = run_more (le64 p.tick) r₁ refl (rw c.to_le_bytes.ensures at c.put_whole-2.ensures) in
    tick-put c.args.s.now c.requires c.args.x p c.tick_parts-p.ensures (search rules) r₂.is
