use mathlib.Core.Path.{sym, ◌∙◌}
use mathlib.Core.List.{[], ◌∷◌}
use native.Mathlib.Nat.{sub-zero}
use native.Mathlib.Omega.{arith}
use lib.ListN.{length, length-set}
use Rattle.slices.proofs.Over.{over-past, over-append, set-over, length_over}
use Rattle.bus.proofs.Words.{sent-small, words-parts}
use Rattle.bus.proofs.log.put_op.Goals as goal

pub returns-then-log-at : goal.returns-then-log-at
returns-then-log-at c = sym (over-past _ _ _ c.if-log-at.true)

pub first_word-requires : goal.first_word-requires
first_word-requires c = c.sent-n.ensures.1

pub slice_bounds-pack-end : goal.slice_bounds-pack-end
slice_bounds-pack-end c =
    let a = c.args in
    omega (arith, sent-small a.op (length a.buf.now))

pub shape_of-log : goal.shape_of-log
shape_of-log c = rw (c.pack.ensures, length_over, length-set)

pub returns : goal.returns
returns c =
    let a = c.args in
    rw (words-parts a.op a.buf.now, ← c.sent-n.ensures.0, ← c.first_word.ensures) (c.pack.ensures ∙ rw (sub-zero, set-over) (over-append _ _ (_ ∷ []) _))
