use borrow.Author.Rules.{rules}
use mathlib.Core.Path.{sym, ◌∙◌}
use native.Mathlib.Omega.{arith}
use Rattle.session_form.proofs.Same.{four-zeros, eight-zeros, failure-empty, failure-deauth, failure-rest}
use Rattle.session_form.proofs.parts.failure_form.Goals as goal

pub returns-in-0 : goal.returns-in-0
returns-in-0 c = eight-zeros 3 c.args.p.now (omega arith) (rw c.bytes_at.ensures at c.from_le_bytes.ensures) ∙ sym (failure-empty c.args.p.now c.requires c.in-0.is)

pub returns-in-6 : goal.returns-in-6
returns-in-6 c = four-zeros 3 c.args.p.now (omega arith) (rw c.bytes_at-in-6.ensures at c.from_le_bytes-in-6.ensures) ∙ sym (failure-deauth c.args.p.now c.requires (λ i. omega (arith, c.type_inv.p i)) c.in-6.is)

pub returns-in_default : goal.returns-in_default
returns-in_default c = sym (failure-rest c.args.p.now c.requires (λ i. omega (arith, c.type_inv.p i)) (search rules) (search rules) (search rules))
