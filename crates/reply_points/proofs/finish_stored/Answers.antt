use mathlib.Core.Path.{◌≡◌}
use mir.Syntax.{w32}
use mir.Val.{to_z, of_z}
use borrow.Author.Rules.{rules}
use Rattle.reply_points.proofs.finish_stored.Goals as goal

pub returns : goal.returns
returns c = let z = c.args.p.status in let i : to_z w32 (of_z w32 z) ≡ z = search rules in λ s h. rw i at (c.finish.ensures s h)
