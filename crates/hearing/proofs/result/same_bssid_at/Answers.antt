use mathlib.Core.Path.{sym, ◌∙◌}
use Rattle.hearing.proofs.Brought.{bssid-pieces}
use Rattle.hearing.proofs.result.same_bssid_at.Goals as goal

pub returns-then-eq : goal.returns-then-eq
returns-then-eq c =
    let four = rw (c.bytes_at.ensures, c.bytes_at-2.ensures) at c.eq.ensures in
    let two = rw (c.bytes_at-then-eq.ensures, c.bytes_at-then-eq-2.ensures) at c.eq-then-eq.ensures in
    rw (bssid-pieces c.args.s.now c.args.e.now c.args.at, sym four ∙ c.if-eq.true) two

pub returns-else-eq : goal.returns-else-eq
returns-else-eq c =
    let four = rw (c.bytes_at.ensures, c.bytes_at-2.ensures) at c.eq.ensures in
    rw (bssid-pieces c.args.s.now c.args.e.now c.args.at, sym four ∙ c.if-eq.false) c.if-eq.false
