use mathlib.Core.Path.{sym}
use native.Mathlib.Omega.{arith}
use Rattle.slices.proofs.Over.{part-rest}
use Rattle.two_pass_read.proofs.TwoPass.{twice, twice-none}
use Rattle.two_pass_read.proofs.read_bytes.Goals as goal

pub returns-then-words-eq0 : goal.returns-then-words-eq0
returns-then-words-eq0 c =
    let a = c.args in
    sym (twice-none a.n a.words.now a.buf.now c.if-words-eq0.true)

pub returns : goal.returns
returns c =
    let a = c.args in
    twice a.n c.min-at.result a.words.now a.buf.now (omega arith) (rw (part-rest a.words.now 1) at c.unpack.ensures) c.put_tail.ensures
