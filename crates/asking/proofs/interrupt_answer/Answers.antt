use native.Mathlib.Omega.{arith}
use mathlib.Core.Path.{refl}
use Rattle.effects.specs.Answer.{is_wait}
use Rattle.wlan.specs.declared.BusOp.{BusOp}
use Rattle.asking.proofs.Laws as law
use Rattle.asking.proofs.interrupt_answer.Goals as goal

pub returns-then-head-eq4096 : goal.returns-then-head-eq4096
returns-then-head-eq4096 c =
    let a = c.args in
    law.heard-got BusOp.ReadInterrupt _ _ _ _ c.from.result _ (rw c.from.ensures (law.interrupt-got a.rec.now a.pos _ refl (omega arith) (omega arith))) c.answered.ensures

pub other-requires : goal.other-requires
unfolding is_wait
other-requires c = refl
