use mathlib.Core.Path.{◌≡◌, ◌∙◌}
use mir.Syntax.{w32}
use mir.Val.{to_z, of_z}
use Rattle.state_bytes.specs.Parts.{waiting_reply}
use borrow.Author.Rules.{rules}
use Rattle.state_bytes.proofs.parts.waiting_reply.Goals as goal

pub returns : goal.returns
unfolding waiting_reply
returns c = let z = c.args.x.status in let e : to_z w32 (of_z w32 z) ≡ z = search rules in (rw (c.unsigned32.ensures.0, e), c.unsigned32.ensures.1 ∙ e)
