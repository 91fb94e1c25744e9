use mathlib.Core.Path.{sym, ◌∙◌}
use lib.Bits.{bit_and}
use lib.Dec.{eqb}
use borrow.Author.Tests.{not-true, not-false}
use Rattle.device.specs.Poll.{status_step}
use Rattle.poll_points.specs.PollPoints.{point_by}
use Rattle.poll_points.proofs.Laws.{still}
use Rattle.poll_points.proofs.by_status.Goals as goal

pub returns-then-unreadable : goal.returns-then-unreadable
unfolding status_step point_by
returns-then-unreadable c = still _ c.requires (simp (not-true (eqb (bit_and c.args.v 0x100) 0) (sym c.has_packet.ensures ∙ c.if-has_packet.true), sym c.unreadable.ensures ∙ c.if-unreadable.true, c.ask.ensures))

pub returns-then-has_packet : goal.returns-then-has_packet
unfolding status_step point_by
returns-then-has_packet c = still _ c.requires (simp (not-true (eqb (bit_and c.args.v 0x100) 0) (sym c.has_packet.ensures ∙ c.if-has_packet.true), sym c.unreadable.ensures ∙ c.if-unreadable.false, c.ask-then-has_packet.ensures, c.pending.ensures))

pub returns : goal.returns
unfolding status_step
returns c = simp (not-false (eqb (bit_and c.args.v 0x100) 0) (sym c.has_packet.ensures ∙ c.if-has_packet.false)) c.unmarked.ensures
