use native.Mathlib.Omega.{arith}
use mathlib.Core.Path.{refl}
use Prim.Native.Nat.{◌+◌}
use Rattle.definition.specs.Bus.{words_of}
use Rattle.device.specs.Meaning.{landing}
use Rattle.effects.specs.Answer.{is_wait}
use Rattle.wlan.specs.declared.BusOp.{BusOp}
use Rattle.asking.proofs.Laws as law
use Rattle.asking.proofs.ask_interrupt_write.Goals as goal

pub returns-then-log-len : goal.returns-then-log-len
unfolding words_of
returns-then-log-len c =
    let a = c.args in
    λ b. law.asks-full (BusOp.WriteInterrupt a.v) a.rec.now a.log.now a.pos a.len 1 b _ c.refused.ensures refl (omega arith)

pub returns : goal.returns
unfolding words_of landing is_wait
returns c =
    let a = c.args in
    rw c.from.ensures (λ b. law.asks-same (BusOp.WriteInterrupt a.v) a.rec.now a.log.now a.pos a.len 1 b _ (law.logged-one (BusOp.WriteInterrupt a.v) a.log.now a.len _ b refl (omega arith)) refl _ (λ x. refl) (law.heard-interrupt-write a.rec.now a.pos (a.len + 1) _ c.write_answer.ensures a.v))
