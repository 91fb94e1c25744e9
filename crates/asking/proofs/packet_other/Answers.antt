use Rattle.std.proofs.Common.{ap, Err}
use Rattle.answers.specs.declared.NoAnswer.{NoAnswer}
use mathlib.Core.Path.{sym, ◌∙◌}
use Rattle.wlan.specs.declared.BusOp.{BusOp}
use Rattle.asking.proofs.Laws as law
use Rattle.asking.proofs.packet_other.Goals as goal

pub packet_got-requires : goal.packet_got-requires
packet_got-requires c = record { kept_2 = c.requires.kept_2; x_value = sym c.in-Ok.is ∙ c.take_answer.ensures }

pub returns-in-Err-Unrecorded : goal.returns-in-Err-Unrecorded
returns-in-Err-Unrecorded c =
    let a = c.args in
    record { heard = law.none_in (BusOp.ReadPacket a.n) a.rec.now a.pos a.len _ a.buf.now (sym (c.in-Err-Unrecorded.is ∙ ap (λ (x : NoAnswer). Err x) c.in-Err-Unrecorded.field-0-is) ∙ c.take_answer.ensures) c.refused.ensures; kept = law.kept_same c.requires.kept_2 }

pub returns-in-Err-Wrong : goal.returns-in-Err-Wrong
returns-in-Err-Wrong c =
    let a = c.args in
    record { heard = law.wrong-in (BusOp.ReadPacket a.n) a.rec.now a.pos a.len _ a.buf.now (sym (c.in-Err-Wrong.is ∙ ap (λ (x : NoAnswer). Err x) c.in-Err-Wrong.field-0-is) ∙ c.take_answer.ensures) c.refused-in-Err-Wrong.ensures; kept = law.kept_same c.requires.kept_2 }
