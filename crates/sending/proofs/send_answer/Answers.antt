use Rattle.send.specs.Send.{send_answer, send_op, stall_answer, stall_op, at_first, at_late, at_ready, at_writing}
use Rattle.send_points.specs.SendPoints.{point_by}
use Rattle.sending.proofs.Laws.{still, unheard}
use Rattle.sending.proofs.send_answer.Goals as goal
use Rattle.std.specs.Prelude.{None}

pub returns-in-First : goal.returns-in-First
unfolding send_answer stall_answer at_first point_by
returns-in-First c = rw c.in-First.is (unheard _ (still c.requires.kept c.requires.s_value c.polling.ensures))

pub returns-in-Polling : goal.returns-in-Polling
unfolding send_answer send_op stall_answer stall_op point_by
returns-in-Polling c = rw c.in-Polling.is c.stall_poll.ensures

pub returns-in-Late : goal.returns-in-Late
unfolding send_answer stall_answer at_late point_by
returns-in-Late c = rw c.in-Late.is (unheard _ (still c.requires.kept c.requires.s_value (c.stall_late.ensures _)))

pub returns-in-Waited : goal.returns-in-Waited
unfolding send_answer stall_answer point_by
returns-in-Waited c = rw c.in-Waited.is (unheard _ (still c.requires.kept c.requires.s_value c.polling-in-Waited.ensures))

pub returns-in-Ready : goal.returns-in-Ready
unfolding send_answer at_ready point_by
returns-in-Ready c = rw c.in-Ready.is (unheard _ (still c.requires.kept c.requires.s_value (c.ready_read.ensures _)))

pub returns-in-Writing : goal.returns-in-Writing
unfolding send_answer at_writing point_by
returns-in-Writing c = rw c.in-Writing.is (unheard _ (still c.requires.kept c.requires.s_value (rw (c.sent.ensures None))))
