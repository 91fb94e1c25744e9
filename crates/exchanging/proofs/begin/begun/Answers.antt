use mathlib.Core.Path.{refl}
use Rattle.control.specs.Exchange.{begun_by}
use Rattle.reply_points.specs.ReplyPoints as reply
use Rattle.exchanging.proofs.Laws.{still}
use Rattle.exchanging.proofs.begin.begun.Goals as goal

pub returns-in-Ask : goal.returns-in-Ask
unfolding begun_by reply.next_by reply.header_in
returns-in-Ask c = λ h before put x. rw c.in-Ask.is (still c.requires c.exchange_at.ensures refl)

pub returns-in-Done : goal.returns-in-Done
unfolding begun_by reply.next_by reply.header_in
returns-in-Done c = λ h before put x. rw c.in-Done.is (still c.requires c.refuse.ensures refl)

pub returns-in-Refused : goal.returns-in-Refused
unfolding begun_by reply.next_by reply.header_in
returns-in-Refused c = λ h before put x. rw c.in-Refused.is (c.unbegun.ensures h _)
