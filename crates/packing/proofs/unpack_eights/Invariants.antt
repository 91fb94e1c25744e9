-- The bytes of i eights are down.
use Prim.Native.Nat.{◌*◌}
use lib.ListN.{take}
use Rattle.slices.specs.Le.{bytes_of}
use Rattle.slices.proofs.Over.{Run}
use Rattle.packing.proofs.unpack_eights.Given as goal

abbrev pub invariant-loop-i : goal.invariant-loop-i
invariant-loop-i l = Run l.initial.dst 0 (bytes_of (take (8 * l.i) l.words)) l.dst
