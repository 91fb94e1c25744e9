use mathlib.Core.Path.{◌≡◌}
use mathlib.Core.Bool.{false}
use lib.ListN.{drop}
use mir.Syntax.{w32}
use mir.Val.{to_z, of_z}
use Rattle.definition.specs.Event.{event_of}
use Rattle.device.specs.Meaning.{Tells}
use Rattle.wlan.specs.declared.State.{State}
use Rattle.send.specs.Send.{stall_next, packet_step, polling_step}
use Rattle.poll_points.specs.PollPoints.{next_by}
use Rattle.send_points.specs.SendPoints.{point_by}
use Rattle.sending.proofs.Laws.{still, unheard, moved}
use borrow.Author.Rules.{rules}
use Rattle.sending.proofs.stall_next.Goals as goal
use Rattle.std.specs.Prelude.{None}

pub returns-in-Ask : goal.returns-in-Ask
unfolding stall_next next_by point_by
returns-in-Ask c = λ e h. simp c.in-Ask.is (unheard e (still c.requires.kept c.requires.s_value (rw (c.asks.ensures None))))

pub returns-in-None : goal.returns-in-None
unfolding stall_next packet_step next_by
returns-in-None c = λ e h. simp c.in-None.is (unheard e (c.test.ensures false))

pub returns-in-Control : goal.returns-in-Control
unfolding stall_next packet_step next_by
returns-in-Control c = let z = c.args.r.status in let i : to_z w32 (of_z w32 z) ≡ z = search rules in λ e h. simp c.in-Control.is (moved e (λ (s : State). polling_step s c.args.t0) c.requires.kept c.requires.s_value (rw i at c.store_reply.ensures) (unheard e (still c.requires.kept c.store_reply.ensures.known c.polling.ensures)))

pub returns-in-AsyncEvent : goal.returns-in-AsyncEvent
unfolding stall_next packet_step next_by Tells
returns-in-AsyncEvent c = λ e h. let g : e ≡ event_of (drop c.args.r.offset c.args.buf.now) c.args.r.len = rw c.in-AsyncEvent.is at h in rw c.in-AsyncEvent.is (c.stall_event.ensures e g)

pub returns-in-Data : goal.returns-in-Data
unfolding stall_next packet_step next_by
returns-in-Data c = λ e h. simp c.in-Data.is (unheard e (c.test-in-Data.ensures false))

pub returns-in-HeaderBeyond : goal.returns-in-HeaderBeyond
unfolding stall_next next_by
returns-in-HeaderBeyond c = λ e h. simp c.in-HeaderBeyond.is (unheard e (still c.requires.kept c.requires.s_value (rw (c.refuse.ensures None))))
