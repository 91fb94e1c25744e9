use mathlib.Core.Path.{sym}
use Rattle.slices.proofs.Over.{set-over, over-past}
use Rattle.put_words.proofs.put.Goals as goal

pub returns-then-i-dst : goal.returns-then-i-dst
returns-then-i-dst g c = set-over _ _ _

pub returns-else-i-dst : goal.returns-else-i-dst
returns-else-i-dst g c = sym (over-past _ _ _ c.if-i-dst.false)
