use mathlib.Core.Path.{sym, ◌∙◌}
use mathlib.Core.Bool.{false}
use Rattle.send.specs.Send.{start_step}
use Rattle.send_points.specs.SendPoints.{point_by}
use Rattle.sending.proofs.Laws.{still, unheard}
use Rattle.sending.proofs.send_start.Goals as goal
use Rattle.std.specs.Prelude.{None}

pub returns-then-is_free : goal.returns-then-is_free
unfolding start_step
returns-then-is_free c = λ e. simp (sym c.is_free.ensures ∙ c.if-is_free.true) (unheard e (c.emit.ensures false))

pub returns : goal.returns
unfolding start_step point_by
returns c = λ e. simp (sym c.is_free.ensures ∙ c.if-is_free.false) (unheard e (still c.requires.kept c.requires.s_value (rw (c.waits.ensures None))))
