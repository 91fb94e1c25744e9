use Rattle.run_end.proofs.success_end.Goals as goal

pub returns-in-Done : goal.returns-in-Done
returns-in-Done c = rw c.in-Done.is (c.done_end.ensures, tt)

pub returns-in-Polled : goal.returns-in-Polled
returns-in-Polled c = rw c.in-Polled.is (rw c.report_of.ensures at c.polled_end.ensures, tt)

pub returns-in-Taken : goal.returns-in-Taken
returns-in-Taken c = rw c.in-Taken.is (c.value_end.ensures, c.in-Taken.known_told-in-Taken-1-own.given.0.1)

pub returns-in-Mac : goal.returns-in-Mac
returns-in-Mac c = rw c.in-Mac.is (c.value_end-in-Mac.ensures, tt)

pub returns-in-Word : goal.returns-in-Word
returns-in-Word c = rw c.in-Word.is (c.value_end-in-Word.ensures, c.in-Word.known_told-in-Word-1-own.given.0.1)
