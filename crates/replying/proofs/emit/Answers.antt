use mathlib.Core.Path.{refl}
use Rattle.replying.proofs.Laws.{emitted}
use Rattle.replying.proofs.emit.Goals as goal

pub returns : goal.returns
returns c = rw (← c.out_of-out.ensures, c.emitted.ensures.next _ _ _) (emitted c.emit_header.ensures (c.emitted.ensures.laid _) refl)
