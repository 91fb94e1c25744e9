use mathlib.Core.Path.{◌≡◌, ◌∙◌}
use mir.Syntax.{w16}
use mir.Val.{to_z, of_z}
use Rattle.state_bytes.proofs.Laws.{le16-back}
use Rattle.session_bytes.specs.ListBytes.{tail_bytes}
use borrow.Author.Rules.{rules}
use Rattle.session_bytes.proofs.list.tail_bytes.Goals as goal

pub returns : goal.returns
unfolding tail_bytes
returns c =
    let z = c.args.r.rssi in
    let e : to_z w16 (of_z w16 z) ≡ z = search rules in
    rw c.to_le_bytes.ensures (rw (c.unsigned16.ensures.0, e), rw (le16-back c.unsigned16.result (search rules)) (c.unsigned16.ensures.1 ∙ e))
