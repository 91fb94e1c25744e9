use mathlib.Core.Path.{refl}
use Rattle.shown.specs.Sum.{sum_from}
use Rattle.shown.proofs.Sums.{from_more}
use borrow.Author.Rules.{rules}
use Rattle.shown.proofs.sum.sum_bytes.Goals as goal

pub loop-b-init : goal.loop-b-init
unfolding sum_from
loop-b-init c = (search rules, search rules, refl)

pub loop-b-preserved : goal.loop-b-preserved
loop-b-preserved c = (search rules, search rules, rw (from_more 0 c.args.s.now c.loop-b.b-index c.loop-b-test.true, c.sum_next-t.ensures.value, c.loop-b.invariant.2))
