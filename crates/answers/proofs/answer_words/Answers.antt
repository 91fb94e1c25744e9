use borrow.Author.Tests.{ne_eqb}
use Rattle.definition.specs.Bus as def
use Rattle.answers.proofs.answer_words.Goals as goal

pub returns-in-2 : goal.returns-in-2
unfolding def.size_of
returns-in-2 c = rw c.in-2.is

pub returns-in-3 : goal.returns-in-3
unfolding def.size_of
returns-in-3 c = rw c.in-3.is

pub returns-in-4 : goal.returns-in-4
unfolding def.size_of
returns-in-4 c = rw c.in-4.is

pub returns-in-5 : goal.returns-in-5
unfolding def.size_of
returns-in-5 c = rw c.in-5.is

pub returns-in_default : goal.returns-in_default
unfolding def.size_of
returns-in_default c =
    let n = c.in_default.in_default-own.rest in
    rw (ne_eqb _ 2 n.0.0.0.1, ne_eqb _ 3 n.0.0.1, ne_eqb _ 4 n.0.1, ne_eqb _ 5 n.1)
