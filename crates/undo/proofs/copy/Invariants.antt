-- i bytes are down.
use lib.ListN.{take, drop}
use Rattle.slices.proofs.Over.{Laid}
use Rattle.undo.proofs.copy.Given as goal

abbrev pub invariant-loop-i : goal.invariant-loop-i
invariant-loop-i l = Laid l.initial.dst l.to (take l.n (drop l.from l.src)) l.i l.dst
