use native.Mathlib.Omega.{arith}
use mathlib.Core.Path.{refl, sym, ap, ◌∙◌}
use Rattle.definition.specs.Bus.{size_of}
use Rattle.going.proofs.Laws as turn
use Rattle.asking.specs.Asking as to
use borrow.Author.Rules.{rules}
use Rattle.asking.proofs.taken_as.Goals as goal

pub overflow_add-next : goal.overflow_add-next
overflow_add-next c =
    let a = c.args in
    omega (arith, turn.got-whole a.op a.rec.now a.pos a.x c.requires.x_value, c.answer_words.ensures ∙ ap size_of c.word_at.ensures)

pub returns-in-Err : goal.returns-in-Err
unfolding to.answer_of to.SmallPlace
returns-in-Err c = rw c.from.ensures (record { on = refl; answer = sym c.in-Err.is; got = record { taken = c.requires.x_value; range = c.in_range.ensures; past = rw (← c.word_at.ensures, ← c.answer_words.ensures); place = rw c.in-Err.is (search rules) }; logged = refl })

pub returns-in-Ok : goal.returns-in-Ok
unfolding to.answer_of to.SmallPlace
returns-in-Ok c = rw c.answered.ensures (record { on = refl; answer = sym c.in-Ok.is; got = record { taken = c.requires.x_value; range = c.in_range.ensures; past = rw (← c.word_at.ensures, ← c.answer_words.ensures); place = rw c.in-Ok.is tt }; logged = refl })
