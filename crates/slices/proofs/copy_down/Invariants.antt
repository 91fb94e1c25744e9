-- i elements are down; what is read lies past them, as it was.
use lib.ListN.{take, drop}
use Rattle.slices.proofs.Over.{Laid}
use Rattle.slices.proofs.copy_down.Given as goal

abbrev pub invariant-loop-i : goal.invariant-loop-i
invariant-loop-i l = Laid l.initial.buf l.to (take l.n (drop l.from l.initial.buf)) l.i l.buf
