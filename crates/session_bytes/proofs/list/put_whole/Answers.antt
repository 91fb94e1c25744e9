use mathlib.Core.Path.{◌≡◌}
use Prim.Native.Nat.{◌+◌, ◌-◌}
use native.Mathlib.Omega.{arith}
use lib.ListN.{length}
use lib.Seq.{drop-drop}
use Rattle.slices.proofs.Over.{over-parts}
use Rattle.session_bytes.proofs.list.put_whole.Goals as goal

pub returns : goal.returns
returns c =
    let a = c.args in
    let e : a.at + length a.s.now - a.at ≡ length a.s.now = omega arith in
    rw (c.copy_from_slice.ensures.after, e, over-parts a.out.now a.at a.s.now c.requires) (rw drop-drop)
