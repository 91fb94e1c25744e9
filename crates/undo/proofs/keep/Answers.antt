use Prim.Native.Nat.{◌+◌, ◌-◌, ◌/◌}
use native.Mathlib.Omega.{arith}
use Rattle.undo.proofs.Keeping.{more-all}
use Rattle.undo.proofs.keep.Goals as goal

pub returns-then-n-end : goal.returns-then-n-end
returns-then-n-end c =
    let n = c.kept-n.result in
    let e = c.min-end.result in
    rw (c.put_kept.ensures, c.copy.ensures) (more-all c.args.undo.now c.args.buf.now n ((e - n + 7) / 8) c.requires.kept c.told-buf c.kept-n.ensures (omega arith) c.args.to (omega arith))
