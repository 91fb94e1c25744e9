-- i words are down.
use Rattle.slices.specs.Le.{packed}
use Rattle.slices.proofs.Over.{Laid}
use Rattle.packing.proofs.pack_whole.Given as goal

abbrev pub invariant-loop-i : goal.invariant-loop-i
invariant-loop-i l = Laid l.initial.log l.at (packed l.bytes) l.i l.log
