use mathlib.Core.Path.{sym, ◌∙◌}
use native.Mathlib.Omega.{arith}
use Rattle.session_form.proofs.Same.{eight-zeros, reply-none, reply-there}
use Rattle.session_form.proofs.parts.reply_form.Goals as goal

pub returns-then-p-eq0 : goal.returns-then-p-eq0
returns-then-p-eq0 c = eight-zeros 1 c.args.p.now (omega arith) (rw c.bytes_at.ensures at c.from_le_bytes.ensures) ∙ sym (reply-none c.args.p.now c.requires c.if-p-eq0.true)

pub returns-else-p-eq0 : goal.returns-else-p-eq0
returns-else-p-eq0 c = sym (reply-there c.args.p.now c.requires (λ i. omega (arith, c.type_inv.p i)) c.if-p-eq0.false)
