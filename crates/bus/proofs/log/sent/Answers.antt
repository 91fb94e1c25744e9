use native.Mathlib.Omega.{arith}
use Rattle.bus.proofs.log.sent.Goals as goal

pub returns-in-WritePacket : goal.returns-in-WritePacket
returns-in-WritePacket c = (simp c.in-WritePacket.is (omega arith), omega arith)
