use borrow.Author.Tests.{ne_eqb}
use Rattle.state_bytes.specs.Parts.{tick_of}
use Rattle.state_bytes.proofs.parts.tick_of.Goals as goal

pub returns-then-p-eq0 : goal.returns-then-p-eq0
unfolding tick_of
returns-then-p-eq0 c = simp c.if-p-eq0.true

pub returns : goal.returns
unfolding tick_of
returns c = simp (ne_eqb _ _ c.if-p-eq0.false)
