use native.Mathlib.Omega.{arith}
use lib.ListN.{length-take}
use Rattle.lines.proofs.input.read_words.Goals as goal

pub slice_bounds-read_packed-end : goal.slice_bounds-read_packed-end
slice_bounds-read_packed-end c = simp length-take (omega arith)
