use Rattle.state_bytes.specs.Parts.{frame_parts}
use Rattle.state_bytes.proofs.parts.frame_parts.Goals as goal

pub returns-in-None : goal.returns-in-None
unfolding frame_parts
returns-in-None c = simp c.in-None.is

pub returns-in-Some : goal.returns-in-Some
unfolding frame_parts
returns-in-Some c = simp c.in-Some.is
