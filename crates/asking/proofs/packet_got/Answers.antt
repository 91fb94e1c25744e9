use mathlib.Core.Path.{refl}
use Rattle.effects.specs.Answer.{is_wait}
use Rattle.wlan.specs.declared.BusOp.{BusOp}
use Rattle.asking.proofs.Laws as law
use borrow.Author.Rules.{rules}
use Rattle.asking.proofs.packet_got.Goals as goal

pub taken_as-requires : goal.taken_as-requires
unfolding is_wait
taken_as-requires c = record { op_value = refl; x_value = c.requires.x_value }

pub returns : goal.returns
returns c =
    let a = c.args in
    record { heard = law.heard-in (BusOp.ReadPacket a.n) a.rec.now a.pos a.len _ a.buf.now _ a.x c.taken_as.ensures c.land.ensures; kept = law.kept-packet a.n a.x a.rec.now a.pos a.undo.now _ a.buf.now _ c.requires.x_value (search rules) (search rules) c.land.ensures c.keep.ensures.0 (rw c.from.ensures at c.keep.ensures.1) c.keep.ensures.2 c.keep.ensures.3 c.keep.ensures.5 }
