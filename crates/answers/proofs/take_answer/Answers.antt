use mathlib.Core.Path.{◌≡◌, sym, ap, ◌∙◌}
use mathlib.Core.List.{[]}
use Prim.Native.Nat.{◌+◌, ◌-◌}
use native.Mathlib.Omega.{arith}
use lib.ListN.{drop, length-drop}
use Rattle.definition.specs.Bus as def
use Rattle.bus.specs.Op.{op_of}
use Rattle.answers.specs.Taken.{taken_for}
use Rattle.answers.proofs.Answers.{size_in, next_of, size-pos, head_at, taken_none, taken_next, told-seen}
use Rattle.answers.proofs.take_answer.Goals as goal
use Rattle.answers.proofs.take_answer.Goals.{After-answer_words-n}

-- the words that the next answer takes
size : (c : After-answer_words-n) → size_in (drop c.args.pos c.args.rec.now) ≡ c.answer_words-n.result
size c = ap def.size_of (head_at c.args.rec.now c.args.pos ∙ sym c.word_at.ensures) ∙ sym c.answer_words-n.ensures

pub returns-then-fitting-n : goal.returns-then-fitting-n
returns-then-fitting-n c =
    let a = c.args in
    let e = size (goal.at.returns-then-fitting-n c).After-answer_words-n in
    sym (taken_none (op_of a.op []) (drop a.pos a.rec.now) (omega (arith, length-drop a.pos a.rec.now)))

pub offset_bounds-rec-pos : goal.offset_bounds-rec-pos
offset_bounds-rec-pos c = omega (arith, size-pos c.word_at.result)

pub slice_bounds-read_answer-end : goal.slice_bounds-read_answer-end
slice_bounds-read_answer-end c = omega (arith, size-pos c.word_at.result)

pub returns : goal.returns
returns c =
    let a = c.args in
    let q = op_of a.op [] in
    let ws = drop a.pos a.rec.now in
    let e = size (goal.at.returns c).After-answer_words-n in
    let k : a.pos + c.answer_words-n.result - a.pos ≡ size_in ws = omega arith in
    c.taken_by.ensures ∙ ap (taken_for q) (rw k at c.read_answer.ensures) ∙ sym (taken_next q ws (omega (arith, length-drop a.pos a.rec.now)) ∙ told-seen q (next_of ws))
