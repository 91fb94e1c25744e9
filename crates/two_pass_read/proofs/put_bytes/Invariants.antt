-- i bytes of the tail are down.
use lib.ListN.{drop}
use Rattle.slices.specs.Le.{bytes_of}
use Rattle.slices.proofs.Over.{Laid}
use Rattle.two_pass_read.proofs.put_bytes.Given as goal

abbrev pub invariant-loop-i : goal.invariant-loop-i
invariant-loop-i l = Laid l.initial.buf l.at (drop l.n (bytes_of l.words)) l.i l.buf
