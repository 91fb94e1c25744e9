use mathlib.Core.Path.{◌∙◌}
use mathlib.Core.List.{[], ◌∷◌}
use Rattle.slices.proofs.Over.{stores-over}
use Rattle.undo.proofs.put_kept.Goals as goal

pub returns : goal.returns
returns c = stores-over _ 0 _ (_ ∷ []) ∙ rw c.to_le_bytes.ensures
