use mathlib.Core.Path.{sym, ◌∙◌}
use Rattle.send.specs.Send.{start_step}
use Rattle.ioctl.specs.Ioctl.{sending_step, sending_next}
use Rattle.send_points.specs.SendPoints as send
use Rattle.reply_points.specs.ReplyPoints.{point_by}
use Rattle.replying.proofs.Laws.{unemitted}
use Rattle.replying.proofs.sending_start.Goals as goal
use Rattle.std.specs.Prelude.{None}

pub returns-then-is_free : goal.returns-then-is_free
unfolding start_step
returns-then-is_free c = simp (sym c.is_free.ensures ∙ c.if-is_free.true) c.emit.ensures

pub returns : goal.returns
unfolding start_step sending_step sending_next point_by send.point_by
returns c = simp (sym c.is_free.ensures ∙ c.if-is_free.false) (unemitted c.requires.kept c.requires.s_value (rw (c.waits.ensures None)))
