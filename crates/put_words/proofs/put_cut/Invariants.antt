-- i bytes of w are down.
use Rattle.slices.specs.Le.{le32}
use Rattle.slices.proofs.Over.{Laid}
use Rattle.put_words.proofs.put_cut.Given as goal

abbrev pub invariant-loop-i : goal.invariant-loop-i
invariant-loop-i l = Laid l.initial.dst l.at (le32 l.w) l.i l.dst
