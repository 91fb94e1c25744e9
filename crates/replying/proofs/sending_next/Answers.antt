use mathlib.Core.Path.{refl}
use Rattle.ioctl.specs.Ioctl as to
use Rattle.send_points.specs.SendPoints as send
use Rattle.reply_points.specs.ReplyPoints.{header_in}
use Rattle.replying.proofs.Laws.{follows}
use Rattle.replying.proofs.sending_next.Goals as goal

pub returns-in-Ask : goal.returns-in-Ask
unfolding to.sending_next send.next_by send.header_in header_in
returns-in-Ask c = λ h x. rw c.in-Ask.is (follows x c.requires refl (c.sends.ensures x))

pub returns-in-Sent : goal.returns-in-Sent
unfolding to.sending_next send.next_by send.header_in
returns-in-Sent c = λ h x. rw c.in-Sent.is (c.sent.ensures h)

pub returns-in-Refused : goal.returns-in-Refused
unfolding to.sending_next send.next_by send.header_in header_in
returns-in-Refused c = λ h x. rw c.in-Refused.is (follows x c.requires refl (c.refuse.ensures x))
