use mathlib.Core.Path.{◌≡◌}
use mathlib.Core.Bool.{false}
use Rattle.session_bytes.specs.Session.{session_in}
use lib.ListN.{drop}
use mir.Syntax.{w32}
use mir.Val.{to_z, of_z}
use Rattle.definition.specs.Event.{event_of}
use Rattle.device.specs.Meaning.{Tells}
use Rattle.ioctl.specs.Ioctl.{reply_next, packet_step}
use Rattle.poll_points.specs.PollPoints.{next_by}
use Rattle.reply_points.specs.ReplyPoints.{point_by}
use Rattle.replying.proofs.Laws.{still, unlaid, heard}
use borrow.Author.Rules.{rules}
use Rattle.replying.proofs.reply_next.Goals as goal
use Rattle.std.specs.Prelude.{None}

pub returns-in-Ask : goal.returns-in-Ask
unfolding reply_next next_by point_by
returns-in-Ask c = λ e h. simp c.in-Ask.is (unlaid e c.requires.kept c.requires.s_value (still c.requires.s_value (rw (c.asks.ensures None))))

pub returns-in-None : goal.returns-in-None
unfolding reply_next packet_step next_by point_by
returns-in-None c = λ e h. simp c.in-None.is (unlaid e c.requires.kept c.requires.s_value (still c.requires.s_value (rw (c.waits.ensures None))))

pub returns-in-Control : goal.returns-in-Control
unfolding reply_next packet_step next_by
returns-in-Control c = let z = c.args.r.status in let i : to_z w32 (of_z w32 z) ≡ z = search rules in λ e h. simp c.in-Control.is (unlaid e c.requires.kept c.requires.s_value (still c.requires.s_value (rw i at (c.finish.ensures (session_in c.args.s.now).st false))))

pub returns-in-AsyncEvent : goal.returns-in-AsyncEvent
unfolding reply_next packet_step next_by point_by Tells
returns-in-AsyncEvent c = λ e h. let g : e ≡ event_of (drop c.args.r.offset c.args.buf.now) c.args.r.len = rw c.in-AsyncEvent.is at h in rw (c.in-AsyncEvent.is, g, ← c.waits-in-AsyncEvent.ensures None) (heard _ _ c.handle_async_event.ensures.held c.handle_async_event.ensures.kept)

pub returns-in-Data : goal.returns-in-Data
unfolding reply_next packet_step next_by point_by
returns-in-Data c = λ e h. simp c.in-Data.is (unlaid e c.requires.kept c.requires.s_value (still c.requires.s_value (rw (c.waits-in-Data.ensures None))))

pub returns-in-HeaderBeyond : goal.returns-in-HeaderBeyond
unfolding reply_next next_by
returns-in-HeaderBeyond c = λ e h. simp c.in-HeaderBeyond.is (unlaid e c.requires.kept c.requires.s_value (still c.requires.s_value (rw (c.refuse.ensures None))))
