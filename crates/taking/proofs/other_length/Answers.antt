use Rattle.taking.proofs.other_length.Goals as goal

pub returns : goal.returns
returns c = rw c.no_failure.ensures
