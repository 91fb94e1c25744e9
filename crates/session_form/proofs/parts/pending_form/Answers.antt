use borrow.Author.Rules.{rules}
use Rattle.session_form.proofs.Same.{pending-same}
use Rattle.session_form.proofs.parts.pending_form.Goals as goal

pub returns-then-reply_form : goal.returns-then-reply_form
returns-then-reply_form c = rw (pending-same c.args.p.now c.requires) (search rules)

pub returns-else-reply_form : goal.returns-else-reply_form
returns-else-reply_form c = rw (pending-same c.args.p.now c.requires) (search rules)
