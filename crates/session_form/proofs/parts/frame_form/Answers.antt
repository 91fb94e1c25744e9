use mathlib.Core.Path.{sym, ◌∙◌}
use native.Mathlib.Omega.{arith}
use Rattle.session_form.proofs.Same.{four-zeros, frame-none, frame-there}
use Rattle.session_form.proofs.parts.frame_form.Goals as goal

pub returns-then-p-eq0 : goal.returns-then-p-eq0
returns-then-p-eq0 c = four-zeros 10 c.args.p.now (omega arith) (rw c.bytes_at.ensures at c.from_le_bytes.ensures) ∙ sym (frame-none c.args.p.now c.requires c.if-p-eq0.true)

pub returns-else-p-eq0 : goal.returns-else-p-eq0
returns-else-p-eq0 c = sym (frame-there c.args.p.now c.requires (λ i. omega (arith, c.type_inv.p i)) c.if-p-eq0.false)
