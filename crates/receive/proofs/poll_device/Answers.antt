use Rattle.device.specs.Poll.{poll_answer, valued_step, poll_op}
use Rattle.device.specs.Meaning.{arrival_at}
use Rattle.poll_points.specs.PollPoints.{point_by}
use Rattle.poll_points.proofs.Laws.{still}
use Rattle.receive.proofs.poll_device.Goals as goal

pub returns-in-Interrupt : goal.returns-in-Interrupt
unfolding poll_answer valued_step point_by
returns-in-Interrupt c = simp c.in-Interrupt.is (still _ c.requires.s_value (c.interrupt_read.ensures _))

pub returns-in-Acknowledge : goal.returns-in-Acknowledge
unfolding poll_answer valued_step point_by
returns-in-Acknowledge c = simp c.in-Acknowledge.is (still _ c.requires.s_value (c.acknowledged.ensures _))

pub returns-in-Status : goal.returns-in-Status
unfolding poll_answer valued_step point_by
returns-in-Status c = simp c.in-Status.is c.status_read.ensures

pub returns-in-Waited : goal.returns-in-Waited
unfolding poll_answer valued_step point_by
returns-in-Waited c = simp c.in-Waited.is (still _ c.requires.s_value (c.waited.ensures _))

pub returns-in-FrameControl : goal.returns-in-FrameControl
unfolding poll_answer valued_step point_by
returns-in-FrameControl c = simp c.in-FrameControl.is c.unmarked.ensures

pub returns-in-Packet : goal.returns-in-Packet
unfolding poll_answer valued_step point_by poll_op arrival_at
returns-in-Packet c = simp c.in-Packet.is c.arrived.ensures
