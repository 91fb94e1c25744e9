use borrow.Author.Tests.{ne_eqb}
use mathlib.Core.Path.{◌≡◌}
use mir.Syntax.{w32}
use mir.Val.{to_z, of_z}
use Rattle.state_bytes.specs.Parts.{reply_of}
use borrow.Author.Rules.{rules}
use Rattle.state_bytes.proofs.parts.reply_of.Goals as goal

pub returns-then-p-eq0 : goal.returns-then-p-eq0
unfolding reply_of
returns-then-p-eq0 c = simp c.if-p-eq0.true

pub returns : goal.returns
unfolding reply_of
returns c = let z = c.signed32.result in let e : to_z w32 (of_z w32 z) ≡ z = search rules in rw (e, c.signed32.ensures, ne_eqb _ _ c.if-p-eq0.false)
