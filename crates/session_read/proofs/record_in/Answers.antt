use Rattle.state_bytes.proofs.Laws.{pair-is}
use mathlib.Core.Path.{◌≡◌, refl, ap, ◌∙◌}
use mir.Syntax.{w16}
use mir.Val.{to_z, of_z}
use Rattle.slices.specs.Le.{signed16}
use Rattle.session_bytes.specs.ListBytes.{record_of}
use Rattle.session_bytes.proofs.Laws.{record_is}
use borrow.Author.Rules.{rules}
use Rattle.session_read.proofs.record_in.Goals as goal

pub returns : goal.returns
unfolding record_of
returns c = let z = c.signed16.result in let e : to_z w16 (of_z w16 z) ≡ z = search rules in record_is (record_of c.args.p.now) _ _ _ _ _ c.bytes_at.ensures c.bssid_in.ensures refl refl (e ∙ c.signed16.ensures ∙ ap signed16 (pair-is _ _ c.from_le_bytes.ensures))
