use mathlib.Core.Path.{sym}
use mathlib.Core.Bool.{true≢false}
use native.Mathlib.Omega.{arith}
use Rattle.straight_send.proofs.ready_written.Goals as goal

pub returns-then-rec-lt3 : goal.returns-then-rec-lt3
returns-then-rec-lt3 c = λ t. absurd (true≢false (sym t))

pub returns-then-rec-ne536870912 : goal.returns-then-rec-ne536870912
returns-then-rec-ne536870912 c = λ t. absurd (true≢false (sym t))

pub returns-then-rec-ne1610612736 : goal.returns-then-rec-ne1610612736
returns-then-rec-ne1610612736 c = λ t. absurd (true≢false (sym t))

pub returns : goal.returns
returns c = λ t. record { status = record { there = omega arith; first = omega arith }; word = (c.says_ready.ensures t).0; ready = (c.says_ready.ensures t).1; written = record { there = omega arith; first = omega arith } }
