use mathlib.Core.Path.{refl}
use Rattle.device.specs.Poll.{poll_op}
use Rattle.poll_points.specs.PollPoints.{point_by}
use Rattle.turning.proofs.Laws.{still_kept}
use Rattle.turning.proofs.device_ask.Goals as goal

pub returns-in-Interrupt-clause-asks : goal.returns-in-Interrupt-clause-asks
unfolding poll_op point_by
returns-in-Interrupt-clause-asks c = simp c.in-Interrupt.is (c.ask_interrupt.ensures c.args.buf.now)

pub returns-in-Acknowledge-clause-asks : goal.returns-in-Acknowledge-clause-asks
unfolding poll_op point_by
returns-in-Acknowledge-clause-asks c = simp c.in-Acknowledge.is (c.ask_interrupt_write.ensures c.args.buf.now)

pub returns-in-Status-clause-asks : goal.returns-in-Status-clause-asks
unfolding poll_op point_by
returns-in-Status-clause-asks c = simp c.in-Status.is (c.ask_status.ensures c.args.buf.now)

pub returns-in-Waited-clause-asks : goal.returns-in-Waited-clause-asks
unfolding poll_op point_by
returns-in-Waited-clause-asks c = simp c.in-Waited.is (c.ask_wait.ensures c.args.rec.now c.args.buf.now)

pub returns-in-FrameControl-clause-asks : goal.returns-in-FrameControl-clause-asks
unfolding poll_op point_by
returns-in-FrameControl-clause-asks c = simp c.in-FrameControl.is (c.ask_frame_control.ensures c.args.buf.now)

pub returns-in-Packet-clause-asks : goal.returns-in-Packet-clause-asks
unfolding poll_op point_by
returns-in-Packet-clause-asks c = simp c.in-Packet.is c.ask_packet.ensures.asks
