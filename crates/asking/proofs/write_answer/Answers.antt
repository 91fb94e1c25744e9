use native.Mathlib.Omega.{arith}
use mathlib.Core.Path.{refl}
use Rattle.effects.specs.Answer.{is_wait}
use Rattle.wlan.specs.declared.BusOp.{BusOp}
use Rattle.asking.proofs.Laws as law
use Rattle.asking.proofs.write_answer.Goals as goal

pub returns-then-begins : goal.returns-then-begins
returns-then-begins c =
    let a = c.args in
    law.heard-got BusOp.FrameControl _ _ _ _ 0 _ (law.write-got a.rec.now a.pos (c.begins.ensures c.if-begins.true)) c.answered.ensures

pub other-requires : goal.other-requires
unfolding is_wait
other-requires c = refl
