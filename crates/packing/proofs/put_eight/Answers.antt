use mathlib.Core.Path.{refl}
use mathlib.Core.List.{◌∷◌}
use Prim.Native.Nat.{◌*◌}
use native.Mathlib.Omega.{arith}
use lib.ListN.{get_or}
use Rattle.slices.specs.Le.{bytes_of}
use Rattle.slices.proofs.Over.{Run, run_none, run_more}
use Rattle.packing.proofs.Eights.{from, eight}
use Rattle.packing.proofs.put_eight.Goals as goal

pub returns : goal.returns
unfolding bytes_of
returns c =
    let a = c.args in
    let r : Run a.dst.now (4 * a.k) (bytes_of (get_or a.words.now a.k 0 ∷ from 3 a.words.now a.k 1)) _ = run_more _ run_none (omega arith) c.put_four.ensures in
    rw (eight a.words.now a.k c.requires.k_in_bounds) (run_more (bytes_of (from 4 a.words.now a.k 4)) r refl c.put_four-2.ensures).is
