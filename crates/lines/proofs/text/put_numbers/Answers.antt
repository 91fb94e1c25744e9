use Prim.Native.Nat.{◌<◌}
use mathlib.Core.Path.{◌≡◌, refl}
use native.Mathlib.Omega.{arith}
use lib.ListN.{length, take, get_or}
use Rattle.std.proofs.lemmas.List.{get_or-take}
use Rattle.slices.proofs.Over.{run_none, run_more}
use Rattle.lines.proofs.Texts.{spaced, spaced-more, spaced-long, row_laid, row-long}
use borrow.Author.Rules.{rules}
use Rattle.lines.proofs.text.put_numbers.Goals as goal

pub loop-n-init : goal.loop-n-init
unfolding spaced
loop-n-init c = (search rules, search rules, refl, run_none)

pub loop-n-preserved : goal.loop-n-preserved
loop-n-preserved c =
    let h : c.loop-n.n-index < length c.args.numbers.now = omega arith in
    let front : get_or (take 8 c.args.numbers.now) c.loop-n.n-index 0 ≡ get_or c.args.numbers.now c.loop-n.n-index 0 = get_or-take 8 c.args.numbers.now c.loop-n.n-index 0 (omega arith) in (
      search rules,
      omega (arith, c.put_number-at.ensures.value.1),
      spaced-long c.args.numbers.now c.loop-n.n-index c.loop-n.at c.put_number-at.result h c.loop-n.invariant.2 (rw front at c.put_number-at.ensures.value.0),
      rw (spaced-more c.args.numbers.now c.loop-n.n-index h) (run_more _ c.loop-n.invariant.3 (omega arith) (rw front at c.put_number-at.ensures.text_after)),
    )

pub returns : goal.returns
returns c =
    let n : length c.args.numbers.now ≡ 9 = omega arith in
    let e : c.loop-n.n-index ≡ 8 = omega arith in record { text_after = row_laid c.args.text.now _ _ c.args.numbers.now c.loop-n.n-index 8 c.loop-n.at n e c.loop-n.invariant.2 c.loop-n.invariant.3 c.put_number.ensures.text_after; value = (row-long c.args.numbers.now c.loop-n.n-index 8 c.loop-n.at _ n e c.loop-n.invariant.2 c.put_number.ensures.value.0, omega (arith, c.put_number.ensures.value.1)) }
