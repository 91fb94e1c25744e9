-- The last i elements are down; what is read lies before them, as it was.
use Prim.Native.Nat.{◌-◌}
use lib.ListN.{take, drop}
use Rattle.slices.proofs.Over.{Backed}
use Rattle.slices.proofs.copy_up.Given as goal

abbrev pub invariant-loop-i : goal.invariant-loop-i
invariant-loop-i l = Backed l.initial.buf l.to (take l.n (drop l.from l.initial.buf)) (l.n - l.i) l.buf
