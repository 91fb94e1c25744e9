use mathlib.Core.Path.{sym, ◌∙◌}
use Rattle.send.specs.Send.{test_step}
use Rattle.send_points.specs.SendPoints.{point_by}
use Rattle.sending.proofs.Laws.{still}
use Rattle.sending.proofs.test.Goals as goal
use Rattle.std.specs.Prelude.{None}

pub returns-then-is_free : goal.returns-then-is_free
unfolding test_step
returns-then-is_free c = λ h. simp (sym c.is_free.ensures ∙ c.if-is_free.true) (c.emit.ensures h)

pub returns : goal.returns
unfolding test_step point_by
returns c = λ h. simp (sym c.is_free.ensures ∙ c.if-is_free.false) (still c.requires.kept c.requires.s_value (rw (c.waits.ensures None)))
