use native.Mathlib.Omega.{arith}
use mathlib.Core.Path.{refl}
use Rattle.definition.specs.Bus.{words_of}
use Rattle.effects.specs.Answer.{is_wait}
use Rattle.wlan.specs.declared.BusOp.{BusOp}
use Rattle.asking.proofs.Laws as law
use Rattle.asking.proofs.ask_wait.Goals as goal

pub returns-then-log-len : goal.returns-then-log-len
unfolding words_of
returns-then-log-len c =
    let a = c.args in
    λ rec b. law.asks-full (BusOp.Wait a.ns) rec a.log.now a.pos a.len 1 b _ c.refused.ensures refl (omega arith)

pub returns : goal.returns
unfolding words_of is_wait
returns c =
    let a = c.args in
    λ rec b. law.asks-wait (BusOp.Wait a.ns) rec a.log.now a.pos a.len 1 b _ (law.logged-one (BusOp.Wait a.ns) a.log.now a.len _ b refl (omega arith)) _ c.answered.ensures refl
