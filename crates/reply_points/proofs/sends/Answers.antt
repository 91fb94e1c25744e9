use Rattle.reply_points.specs.ReplyPoints.{point_by}
use Rattle.reply_points.proofs.sends.Goals as goal

pub returns-in-First : goal.returns-in-First
unfolding point_by
returns-in-First c = λ h. rw c.in-First.is (c.asks.ensures h)

pub returns-in-Polling : goal.returns-in-Polling
unfolding point_by
returns-in-Polling c = λ h. rw c.in-Polling.is (c.asks-in-Polling.ensures h)

pub returns-in-Late : goal.returns-in-Late
unfolding point_by
returns-in-Late c = λ h. rw c.in-Late.is (c.asks-in-Late.ensures h)

pub returns-in-Waited : goal.returns-in-Waited
unfolding point_by
returns-in-Waited c = λ h. rw c.in-Waited.is (c.asks-in-Waited.ensures h)

pub returns-in-Ready : goal.returns-in-Ready
unfolding point_by
returns-in-Ready c = λ h. rw c.in-Ready.is (c.asks-in-Ready.ensures h)

pub returns-in-Writing : goal.returns-in-Writing
unfolding point_by
returns-in-Writing c = λ h. rw c.in-Writing.is (c.asks-in-Writing.ensures h)
