use Rattle.answers.proofs.taken_by.Goals as goal

pub returns-in-Fault : goal.returns-in-Fault
returns-in-Fault c = simp c.in-Fault.is c.fault_for.ensures

pub returns-in-Value : goal.returns-in-Value
returns-in-Value c = simp c.in-Value.is c.value_for.ensures
