use mathlib.Core.Path.{◌≡◌}
use mir.Syntax.{w32}
use mir.Val.{to_z, of_z}
use Rattle.receive.proofs.Laws.{came-is}
use borrow.Author.Rules.{rules}
use Rattle.receive.proofs.received.Goals as goal

pub returns : goal.returns
returns c = λ s. let p = c.args.p in let e : to_z w32 (of_z w32 p.status) ≡ p.status = search rules in rw (c.came.ensures, c.polled_kind.ensures, e) (came-is p.kind p.offset p.len p.status p.interface s)
