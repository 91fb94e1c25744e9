use mathlib.Core.Path.{sym, ◌∙◌}
use lib.Bits.{bit_and}
use lib.Dec.{eqb}
use borrow.Author.Tests.{not-true, not-false}
use Rattle.device.specs.Poll.{acknowledged}
use Rattle.poll_points.specs.PollPoints.{point_by}
use Rattle.poll_points.proofs.acknowledged.Goals as goal

pub returns-then-f2_available : goal.returns-then-f2_available
unfolding acknowledged point_by
returns-then-f2_available c = λ s. simp (not-true (eqb (bit_and c.args.v 0x20) 0) (sym c.f2_available.ensures ∙ c.if-f2_available.true), c.ask.ensures)

pub returns : goal.returns
unfolding acknowledged
returns c = λ s. simp (not-false (eqb (bit_and c.args.v 0x20) 0) (sym c.f2_available.ensures ∙ c.if-f2_available.false), c.none.ensures)
