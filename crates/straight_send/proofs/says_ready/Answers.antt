use borrow.Author.Tests.{not-true}
use mathlib.Core.Path.{sym, ◌∙◌}
use lib.Bits.{bit_and}
use lib.Dec.{eqb}
use borrow.Author.Rules.{rules}
use Rattle.straight_send.proofs.says_ready.Goals as goal

pub returns : goal.returns
returns c = λ t. (search rules, not-true (eqb (bit_and c.args.status 0x20) 0) (sym c.f2_ready.ensures ∙ t))
