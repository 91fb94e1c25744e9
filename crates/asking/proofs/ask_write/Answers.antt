use native.Mathlib.Omega.{arith}
use mathlib.Core.Path.{refl}
use Prim.Native.Nat.{◌+◌}
use Rattle.device.specs.Meaning.{landing}
use Rattle.effects.specs.Answer.{is_wait}
use Rattle.wlan.specs.declared.BusOp.{BusOp}
use Rattle.asking.proofs.Laws as law
use Rattle.asking.proofs.ask_write.Goals as goal

pub returns-then-fitting-k : goal.returns-then-fitting-k
returns-then-fitting-k c =
    let a = c.args in
    law.asks-full (BusOp.WritePacket a.n) a.rec.now a.log.now a.pos a.len _ a.buf.now _ c.refused.ensures c.op_words-k.ensures (omega (arith, c.fitting.ensures))

pub returns : goal.returns
unfolding landing is_wait
returns c =
    let a = c.args in
    law.asks-same (BusOp.WritePacket a.n) a.rec.now a.log.now a.pos a.len c.op_words-k.result a.buf.now _ (record { count = c.op_words-k.ensures; is = c.put_op.ensures; room = omega (arith, c.fitting.ensures) }) refl _ (λ x. refl) (law.heard-write a.rec.now a.pos (a.len + c.op_words-k.result) _ c.write_answer.ensures a.n)
