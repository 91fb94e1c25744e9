use mathlib.Core.Path.{sym}
use Rattle.slices.proofs.Over.{set-over, over-past}
use borrow.Author.Rules.{rules}
use Rattle.entry.proofs.hand.put_number.Goals as goal

pub returns-then-i-res : goal.returns-then-i-res
returns-then-i-res c = set-over _ _ _

pub returns-else-i-res : goal.returns-else-i-res
returns-else-i-res c = sym (over-past _ _ _ c.if-i-res.false)
