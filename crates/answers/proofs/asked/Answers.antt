use Rattle.answers.proofs.asked.Goals as goal

pub returns-in-ReadPacket : goal.returns-in-ReadPacket
returns-in-ReadPacket c = simp (c.in-ReadPacket.is, c.from.ensures)
