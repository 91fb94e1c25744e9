use mathlib.Core.Path.{◌≡◌, refl}
use mathlib.Core.Bool.{false}
use lib.ListN.{drop}
use mir.Syntax.{w32}
use mir.Val.{to_z, of_z}
use Rattle.wlan.specs.declared.State.{State}
use Rattle.definition.specs.Event.{event_of}
use Rattle.device.specs.Meaning.{Tells}
use Rattle.control.specs.Poll.{polling_step, packet_step, next_step}
use Rattle.poll_points.specs.PollPoints.{next_by}
use Rattle.poll_report.proofs.Laws.{still, quiet-moved}
use Rattle.poll_now.proofs.Laws.{asked, beyond}
use Rattle.polls.proofs.Laws.{quiet-stepped, heard-stepped}
use borrow.Author.Rules.{rules}
use Rattle.polls.proofs.polled.Goals as goal

pub returns-in-Ask : goal.returns-in-Ask
unfolding next_step next_by
returns-in-Ask c = λ e h. simp c.in-Ask.is (quiet-stepped e c.requires.kept c.requires.s_value (still c.requires.s_value (asked _ c.asks.ensures.0 c.asks.ensures.1) refl))

pub returns-in-None : goal.returns-in-None
unfolding next_step packet_step next_by
returns-in-None c = λ e h. simp c.in-None.is (quiet-stepped e c.requires.kept c.requires.s_value c.nothing.ensures)

pub returns-in-Control : goal.returns-in-Control
unfolding next_step packet_step next_by
returns-in-Control c = let z = c.args.r.status in let i : to_z w32 (of_z w32 z) ≡ z = search rules in λ e h. simp c.in-Control.is (quiet-stepped e c.requires.kept c.requires.s_value (quiet-moved (λ (s : State). polling_step s false) (rw i at c.store_reply.ensures) (c.polling.ensures false)))

pub returns-in-AsyncEvent : goal.returns-in-AsyncEvent
unfolding next_step packet_step next_by Tells
returns-in-AsyncEvent c = λ e h. let g : e ≡ event_of (drop c.args.r.offset c.args.buf.now) c.args.r.len = rw c.in-AsyncEvent.is at h in rw (c.in-AsyncEvent.is, g) (heard-stepped _ _ c.handle_async_event.ensures.held c.handle_async_event.ensures.kept c.polling-in-AsyncEvent.ensures refl)

pub returns-in-Data : goal.returns-in-Data
unfolding next_step packet_step next_by
returns-in-Data c = λ e h. simp c.in-Data.is (quiet-stepped e c.requires.kept c.requires.s_value c.frame.ensures)

pub returns-in-HeaderBeyond : goal.returns-in-HeaderBeyond
unfolding next_step next_by
returns-in-HeaderBeyond c = λ e h. simp c.in-HeaderBeyond.is (quiet-stepped e c.requires.kept c.requires.s_value (still c.requires.s_value (beyond _ c.now_at.ensures.0) refl))
