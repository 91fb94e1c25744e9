use borrow.Author.Tests.{ne_eqb}
use Rattle.state_bytes.specs.Parts.{frame_of}
use Rattle.state_bytes.proofs.parts.frame_of.Goals as goal

pub returns-then-p-eq0 : goal.returns-then-p-eq0
unfolding frame_of
returns-then-p-eq0 c = simp c.if-p-eq0.true

pub returns : goal.returns
unfolding frame_of
returns c = simp (ne_eqb _ _ c.if-p-eq0.false)
