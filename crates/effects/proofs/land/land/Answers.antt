use Rattle.device.specs.Meaning.{landing}
use Rattle.effects.proofs.land.land.Goals as goal

pub returns-in-ReadInterrupt : goal.returns-in-ReadInterrupt
unfolding landing
returns-in-ReadInterrupt c = simp c.in-ReadInterrupt.is

pub returns-in-ReadStatus : goal.returns-in-ReadStatus
unfolding landing
returns-in-ReadStatus c = simp c.in-ReadStatus.is

pub returns-in-ReadClock : goal.returns-in-ReadClock
unfolding landing
returns-in-ReadClock c = simp c.in-ReadClock.is

pub returns-in-ReadTick : goal.returns-in-ReadTick
unfolding landing
returns-in-ReadTick c = simp c.in-ReadTick.is

pub returns-in-WritePacket : goal.returns-in-WritePacket
unfolding landing
returns-in-WritePacket c = simp c.in-WritePacket.is

pub returns-in-WriteInterrupt : goal.returns-in-WriteInterrupt
unfolding landing
returns-in-WriteInterrupt c = simp c.in-WriteInterrupt.is

pub returns-in-FrameControl : goal.returns-in-FrameControl
unfolding landing
returns-in-FrameControl c = simp c.in-FrameControl.is

pub returns-in-Wait : goal.returns-in-Wait
unfolding landing
returns-in-Wait c = simp c.in-Wait.is
