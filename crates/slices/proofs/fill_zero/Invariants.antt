-- i zeros are down.
use lib.ListN.{replicate}
use Rattle.slices.proofs.Over.{Laid}
use Rattle.slices.proofs.fill_zero.Given as goal

abbrev pub invariant-loop-i : goal.invariant-loop-i
invariant-loop-i l = Laid l.initial.dst l.at (replicate l.n 0) l.i l.dst
