use mathlib.Core.List.{[], ◌∷◌}
use lib.ListN.{length-set}
use Rattle.slices.proofs.Over.{stores-over, length_over}
use Rattle.undo.proofs.Keeping.{front_kept}
use Rattle.undo.proofs.keep_front.Goals as goal

pub returns : goal.returns
returns c = rw (c.copy_front.ensures, stores-over c.args.undo.now 0 0 (0 ∷ 0 ∷ [])) (front_kept c.args.undo.now c.args.session.now c.told-undo c.told-session)
