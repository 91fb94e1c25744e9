-- The bytes of i words are down.
use lib.ListN.{take}
use Rattle.slices.specs.Le.{bytes_of}
use Rattle.slices.proofs.Over.{Run}
use Rattle.two_pass_read.proofs.unpack_whole.Given as goal

abbrev pub invariant-loop-i : goal.invariant-loop-i
invariant-loop-i l = Run l.initial.dst 0 (bytes_of (take l.i l.words)) l.dst
