use mathlib.Core.Path.{sym, ◌∙◌}
use borrow.Author.Tests.{eq-eqb, ne_eqb}
use Rattle.definition.specs.Scan.{same_network}
use Rattle.events.proofs.Laws.{same-is}
use Rattle.events.proofs.scan.same_network.Goals as goal

pub returns-then-r-s : goal.returns-then-r-s
unfolding same_network
returns-then-r-s c = rw (eq-eqb _ _ c.if-r-s.true) (c.eq.ensures ∙ sym (same-is c.args.r.bssid c.args.s.bssid))

pub returns-else-r-s : goal.returns-else-r-s
unfolding same_network
returns-else-r-s c = rw (ne_eqb _ _ c.if-r-s.false)
