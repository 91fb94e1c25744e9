use mathlib.Core.Path.{sym, ◌∙◌}
use Rattle.definition.specs.Event.{scan_after}
use Rattle.handling.specs.Handle.{state_after}
use Rattle.event_state.proofs.Laws.{not-69}
use Rattle.event_state.proofs.handle_numbers.Goals as goal

pub returns-then-is_link : goal.returns-then-is_link
unfolding state_after scan_after
returns-then-is_link c = λ x. rw (not-69 c.args.n.event_type (sym c.is_link.ensures ∙ c.if-is_link.true)) (c.handle_link.ensures x)
