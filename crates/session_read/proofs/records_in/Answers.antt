use borrow.Author.Rules.{rules}
use native.Mathlib.Nat.{zero-add}
use mathlib.Core.Path.{refl, sym, ◌∙◌}
use native.Mathlib.Omega.{arith}
use lib.ListN.{drop}
use Rattle.slices.proofs.Over.{laid_none, laid_more, laid-all, over-whole}
use Rattle.session_bytes.specs.ListBytes.{record_of, records_from}
use Rattle.session_bytes.proofs.Laws.{length_from}
use Rattle.session_read.proofs.Laws.{from-part}
use Rattle.session_read.proofs.records_in.Goals as goal

pub loop-i-init : goal.loop-i-init
loop-i-init c = (search rules, refl, c.requires, laid_none refl)

pub loop-i-preserved : goal.loop-i-preserved
loop-i-preserved c = (search rules, c.loop-i.invariant.1, c.loop-i.invariant.2, laid_more (record_of c.args.p.now) c.loop-i.invariant.3 (omega (arith, length_from 32 (drop 8 c.args.p.now))) refl (sym (zero-add c.loop-i.i)) (c.record_in.ensures ∙ from-part c.args.p.now c.loop-i.i (record_of c.args.p.now) (omega arith)))

pub returns : goal.returns
returns c = let s = records_from 32 (drop 8 c.args.p.now) in laid-all c.loop-i.invariant.3 (omega (arith, length_from 32 (drop 8 c.args.p.now))) ∙ over-whole _ s (omega (arith, length_from 32 (drop 8 c.args.p.now), c.loop-i.invariant.1))
