use mathlib.Core.Path.{sym, ◌∙◌}
use lib.Bits.{bit_and}
use lib.Dec.{eqb}
use borrow.Author.Tests.{eq-eqb, ne_eqb, not-true, not-false}
use Rattle.send.specs.Send.{ready_step}
use Rattle.send_points.specs.SendPoints.{point_by}
use Rattle.send_points.proofs.ready_read.Goals as goal
use Rattle.std.specs.Prelude.{None}

pub returns-then-f2_ready : goal.returns-then-f2_ready
unfolding ready_step point_by
returns-then-f2_ready c = λ s. simp (not-true (eqb (bit_and c.args.v 0x20) 0) (sym c.f2_ready.ensures ∙ c.if-f2_ready.true), c.waits.ensures None)

pub returns-then-left-eq0 : goal.returns-then-left-eq0
unfolding ready_step
returns-then-left-eq0 c = λ s. simp (not-false (eqb (bit_and c.args.v 0x20) 0) (sym c.f2_ready.ensures ∙ c.if-f2_ready.false), eq-eqb _ _ c.if-left-eq0.true, c.refuse.ensures None)

pub returns : goal.returns
unfolding ready_step point_by
returns c = λ s. simp (not-false (eqb (bit_and c.args.v 0x20) 0) (sym c.f2_ready.ensures ∙ c.if-f2_ready.false), ne_eqb _ _ c.if-left-eq0.false, c.waits-2.ensures None)
