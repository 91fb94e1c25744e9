use borrow.Author.Rules.{rules}
use native.Mathlib.Omega.{arith}
use Rattle.session_form.proofs.Same.{session-form}
use Rattle.session_form.proofs.is_session.Goals as goal

pub returns-then-pending_form : goal.returns-then-pending_form
returns-then-pending_form c = rw (session-form c.args.bytes.now (λ i. omega (arith, c.type_inv.bytes i))) (search rules)

pub returns-else-pending_form : goal.returns-else-pending_form
returns-else-pending_form c = rw (session-form c.args.bytes.now (λ i. omega (arith, c.type_inv.bytes i))) (search rules)
