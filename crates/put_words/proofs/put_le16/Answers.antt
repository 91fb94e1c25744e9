use mathlib.Core.Path.{sym, ◌∙◌}
use mathlib.Core.List.{[], ◌∷◌}
use Rattle.slices.proofs.Over.{set-over, over-past, over-append}
use Rattle.put_words.proofs.put_le16.Goals as goal

pub returns-then-dst-at : goal.returns-then-dst-at
returns-then-dst-at c = sym (over-past _ _ _ c.if-dst-at.true)

pub returns : goal.returns
returns c = rw (c.put.ensures, set-over) (over-append _ _ (_ ∷ []) _ ∙ rw c.to_le_bytes.ensures)
