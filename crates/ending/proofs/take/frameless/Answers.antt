use mathlib.Core.Path.{◌∙◌}
use Rattle.ending.proofs.take.frameless.Goals as goal

pub returns : goal.returns
returns c = c.with_pending.ensures ∙ rw c.set_frame.ensures
