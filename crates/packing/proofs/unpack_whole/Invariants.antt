-- The bytes of all eights and of i words more are down.
use Prim.Native.Nat.{◌+◌}
use lib.ListN.{take}
use Rattle.slices.specs.Le.{bytes_of}
use Rattle.slices.proofs.Over.{Run}
use Rattle.packing.proofs.unpack_whole.Given as goal

abbrev pub invariant-loop-i : goal.invariant-loop-i
invariant-loop-i l = Run l.fn.dst 0 (bytes_of (take (l.start + l.i) l.words)) l.dst
