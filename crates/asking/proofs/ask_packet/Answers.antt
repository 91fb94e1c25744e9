use native.Mathlib.Omega.{arith}
use mathlib.Core.Path.{refl}
use Rattle.definition.specs.Bus.{words_of}
use Rattle.effects.specs.Answer.{is_wait}
use Rattle.wlan.specs.declared.BusOp.{BusOp}
use Rattle.asking.proofs.Laws as law
use Rattle.asking.proofs.ask_packet.Goals as goal

pub returns-then-log-len : goal.returns-then-log-len
unfolding words_of
returns-then-log-len c =
    let a = c.args in
    record { asks = law.asks-full (BusOp.ReadPacket a.n) a.rec.now a.log.now a.pos a.len 1 a.buf.now _ c.refused.ensures refl (omega arith); kept = law.kept_same c.requires.kept_2 }

pub returns : goal.returns
unfolding words_of is_wait
returns c =
    let a = c.args in
    rw c.from.ensures (record { asks = law.asks-heard (BusOp.ReadPacket a.n) a.rec.now a.log.now a.pos a.len 1 a.buf.now _ (law.logged-one (BusOp.ReadPacket a.n) a.log.now a.len _ a.buf.now refl (omega arith)) refl _ _ c.packet_answer.ensures.heard; kept = c.packet_answer.ensures.kept })
