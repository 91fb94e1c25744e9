use Rattle.definition.specs.Event.{link_after}
use Rattle.event_state.proofs.handle_link.Goals as goal

pub returns : goal.returns
unfolding link_after
returns c = λ x. rw (c.link_after.ensures, c.link_at.ensures) at c.put_link.ensures
