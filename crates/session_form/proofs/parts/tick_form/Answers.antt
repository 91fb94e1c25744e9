use mathlib.Core.Path.{sym, ◌∙◌}
use native.Mathlib.Omega.{arith}
use Rattle.session_form.proofs.Same.{eight-zeros, tick-none, tick-there}
use Rattle.session_form.proofs.parts.tick_form.Goals as goal

pub returns-then-p-eq0 : goal.returns-then-p-eq0
returns-then-p-eq0 c = eight-zeros 12 c.args.p.now (omega arith) (rw c.bytes_at.ensures at c.from_le_bytes.ensures) ∙ sym (tick-none c.args.p.now c.requires c.if-p-eq0.true)

pub returns-else-p-eq0 : goal.returns-else-p-eq0
returns-else-p-eq0 c = sym (tick-there c.args.p.now c.requires (λ i. omega (arith, c.type_inv.p i)) c.if-p-eq0.false)
