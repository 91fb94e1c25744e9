use borrow.Author.Rules.{rules}
use mathlib.Core.Path.{◌∙◌}
use Rattle.events.proofs.Laws.{event-short, event-is}
use Rattle.events.proofs.event.event_bytes.Goals as goal

pub returns-then-end-ge32 : goal.returns-then-end-ge32
returns-then-end-ge32 c = let a = c.args in c.copy_over.ensures ∙ event-is a.part.now a.len c.min-end.result (search rules) (search rules)

pub returns-else-end-ge32 : goal.returns-else-end-ge32
returns-else-end-ge32 c = let a = c.args in event-short a.part.now a.len c.min-end.result (search rules) (search rules)
