use Prim.Native.Nat.{◌+◌, ◌-◌}
use mathlib.Core.Path.{◌≡◌}
use native.Mathlib.Omega.{arith}
use lib.ListN.{take, drop}
use Rattle.slices.proofs.Over.{put-over, length_part}
use Rattle.undo.proofs.copy_front.Goals as goal

pub returns : goal.returns
returns c =
    let a = c.args in
    let e : a.from + 49 - a.from ≡ 49 = omega arith in
    rw (c.copy_from_slice.ensures.after, e) (put-over _ _ _ (take 49 (drop a.from a.src.now)) (omega (arith, length_part a.src.now a.from 49)) (omega (arith, length_part a.src.now a.from 49)))
