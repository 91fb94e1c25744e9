use Rattle.state_bytes.specs.Parts.{tick_parts}
use Rattle.state_bytes.proofs.parts.tick_parts.Goals as goal

pub returns-in-None : goal.returns-in-None
unfolding tick_parts
returns-in-None c = simp c.in-None.is

pub returns-in-Some : goal.returns-in-Some
unfolding tick_parts
returns-in-Some c = simp c.in-Some.is
