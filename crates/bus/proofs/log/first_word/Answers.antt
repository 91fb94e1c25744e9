use native.Mathlib.Omega.{arith}
use Rattle.bus.proofs.log.first_word.Goals as goal

pub returns-in-ReadPacket : goal.returns-in-ReadPacket
returns-in-ReadPacket c = simp c.in-ReadPacket.is (omega arith)

pub returns-in-WritePacket : goal.returns-in-WritePacket
returns-in-WritePacket c = simp c.in-WritePacket.is (omega arith)

pub returns-in-WriteInterrupt : goal.returns-in-WriteInterrupt
returns-in-WriteInterrupt c = simp c.in-WriteInterrupt.is (omega arith)

pub returns-in-Wait : goal.returns-in-Wait
returns-in-Wait c = simp c.in-Wait.is (omega arith)
