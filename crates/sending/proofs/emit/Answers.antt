use mathlib.Core.Path.{refl}
use Rattle.sending.proofs.Laws.{emitted}
use Rattle.sending.proofs.emit.Goals as goal

pub returns : goal.returns
returns c = λ h. rw (c.emitted.ensures.next _ h) (emitted c.emit_header.ensures (c.emitted.ensures.laid _) refl)
