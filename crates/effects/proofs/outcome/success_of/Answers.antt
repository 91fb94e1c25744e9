use Rattle.control.specs.Meaning.{success_of}
use Rattle.effects.proofs.outcome.success_of.Goals as goal

pub returns-in-Done : goal.returns-in-Done
unfolding success_of
returns-in-Done c = simp c.in-Done.is

pub returns-in-Mac : goal.returns-in-Mac
unfolding success_of
returns-in-Mac c = simp (c.in-Mac.is, c.mac_in.ensures)

pub returns-in-Word : goal.returns-in-Word
unfolding success_of
returns-in-Word c = simp (c.in-Word.is, c.get_le32.ensures)

pub returns-in-Polled : goal.returns-in-Polled
unfolding success_of
returns-in-Polled c = simp c.in-Polled.is
