use Prim.Native.Nat.{◌+◌, ◌-◌, ◌/◌}
use native.Mathlib.Omega.{arith}
use Rattle.bus.proofs.Landed.{laid-whole, laid-seam}
use Rattle.bus.proofs.read.read_bytes.Goals as goal

pub returns-then-n-eq0 : goal.returns-then-n-eq0
returns-then-n-eq0 c =
    let a = c.args in
    laid-whole a.buf.now a.words.now a.n (1 + a.n / 4 - 1) c.if-n-eq0.true c.requires (omega arith) c.unpack.ensures c.put_le32.ensures

pub returns : goal.returns
returns c =
    let a = c.args in
    laid-seam a.buf.now a.words.now a.n (1 + a.n / 4 - 1) _ c.if-n-eq0.false c.requires (omega arith) c.unpack.ensures c.seam.ensures c.put_le32-2.ensures c.put_le32-3.ensures
