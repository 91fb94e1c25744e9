use mathlib.Core.Path.{◌≡◌}
use mir.Syntax.{w32}
use mir.Val.{to_z, of_z}
use borrow.Author.Rules.{rules}
use Rattle.receive.proofs.store_reply.Goals as goal

pub returns : goal.returns
returns c = let e : to_z w32 (of_z w32 c.args.status) ≡ c.args.status = search rules in rw e at c.put_reply.ensures
