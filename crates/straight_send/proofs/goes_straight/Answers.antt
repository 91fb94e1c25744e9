use mathlib.Core.Path.{sym, ◌∙◌}
use mathlib.Core.Bool.{true≢false}
use native.Mathlib.Omega.{arith}
use Rattle.straight_send.proofs.goes_straight.Goals as goal

pub returns-then-n-gt2022 : goal.returns-then-n-gt2022
returns-then-n-gt2022 c = λ t. absurd (true≢false (sym t))

pub returns-then-log-n : goal.returns-then-log-n
returns-then-log-n c = λ t. absurd (true≢false (sym t))

pub returns-then-is_free : goal.returns-then-is_free
returns-then-is_free c = λ t. record { free = sym c.is_free.ensures ∙ c.if-is_free.true; most = omega arith; fits = omega arith; answered = c.ready_written.ensures t }

pub returns : goal.returns
returns c = λ t. absurd (true≢false (sym t))
