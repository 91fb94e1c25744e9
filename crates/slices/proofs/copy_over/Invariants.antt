-- i elements of src are down.
use Rattle.slices.proofs.Over.{Laid}
use Rattle.slices.proofs.copy_over.Given as goal

abbrev pub invariant-loop-i : goal.invariant-loop-i
invariant-loop-i l = Laid l.initial.dst l.at l.src l.i l.dst
