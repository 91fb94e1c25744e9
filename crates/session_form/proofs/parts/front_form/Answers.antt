use borrow.Author.Rules.{rules}
use Rattle.session_form.proofs.Same.{front_same}
use Rattle.session_form.proofs.parts.front_form.Goals as goal

pub returns-then-p-le1-2 : goal.returns-then-p-le1-2
returns-then-p-le1-2 c = rw (front_same c.args.p.now c.requires) (search rules)

pub returns-else-p-le1-2 : goal.returns-else-p-le1-2
returns-else-p-le1-2 c = rw (front_same c.args.p.now c.requires) (search rules)
