use borrow.Author.Rules.{rules}
use Rattle.session_form.proofs.Same.{link-same}
use Rattle.session_form.proofs.parts.link_form.Goals as goal

pub returns-then-failure_form : goal.returns-then-failure_form
returns-then-failure_form c = rw (link-same c.args.p.now c.requires) (search rules)

pub returns-else-failure_form : goal.returns-else-failure_form
returns-else-failure_form c = rw (link-same c.args.p.now c.requires) (search rules)
