use mathlib.Core.List.{[]}
use mathlib.Core.Path.{refl}
use Rattle.slices.specs.Le.{le32}
use Rattle.definition.specs.Request.{ascii, event_mask, event_messages}
use Rattle.payload.proofs.Lay.{named-is, named_more}
use Rattle.variables.proofs.put_event_messages.Goals as goal

pub returns : goal.returns
unfolding ascii event_messages
returns c =
    let mask = rw c.event_mask.ensures at c.copy_over.ensures in
    (named_more event_mask (named_more (le32 0) (named-is (ascii "bsscfg:event_msgs") [] c.put_name.ensures) refl c.put_le32.ensures) refl mask).is
