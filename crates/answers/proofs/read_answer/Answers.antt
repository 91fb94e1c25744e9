use mathlib.Core.List.{[]}
use lib.ListN.{drop}
use borrow.Author.Tests.{ne_eqb}
use Rattle.slices.specs.Le.{bytes_of}
use Rattle.definition.specs.Bus as def
use Rattle.answers.proofs.read_answer.Goals as goal

pub returns-in-1 : goal.returns-in-1
unfolding def.answer_of
returns-in-1 c = rw (← c.word_at-head.ensures, c.in-1.is) (rw c.from.ensures at (c.value_read.ensures []))

pub returns-in-2 : goal.returns-in-2
unfolding def.answer_of
returns-in-2 c = rw (← c.word_at-head.ensures, c.in-2.is) (rw (c.from-in-2.ensures, c.word_at.ensures) at (c.value_read-in-2.ensures []))

pub returns-in-3 : goal.returns-in-3
unfolding def.answer_of
returns-in-3 c = rw (← c.word_at-head.ensures, c.in-3.is) (rw c.from-in-3.ensures at (c.value_read-in-3.ensures (bytes_of (drop 1 c.args.ws.now))))

pub returns-in-4 : goal.returns-in-4
unfolding def.answer_of
returns-in-4 c = rw (← c.word_at-head.ensures, c.in-4.is) (rw c.clock_in.ensures at (c.value_read-in-4.ensures []))

pub returns-in-5 : goal.returns-in-5
unfolding def.answer_of
returns-in-5 c = rw (← c.word_at-head.ensures, c.in-5.is) (rw c.clock_in-in-5.ensures at (c.value_read-in-5.ensures []))

pub returns-in-6 : goal.returns-in-6
unfolding def.answer_of
returns-in-6 c = rw (← c.word_at-head.ensures, c.in-6.is) (c.value_read-in-6.ensures [])

pub returns-in-7 : goal.returns-in-7
unfolding def.answer_of
returns-in-7 c = rw (← c.word_at-head.ensures, c.in-7.is) c.fault_read.ensures

pub returns-in_default : goal.returns-in_default
unfolding def.answer_of
returns-in_default c =
    let n = c.in_default.in_default-own.rest in
    rw (← c.word_at-head.ensures, ne_eqb _ 1 n.0.0.0.0.0.0.1, ne_eqb _ 2 n.0.0.0.0.0.1, ne_eqb _ 3 n.0.0.0.0.1, ne_eqb _ 4 n.0.0.0.1, ne_eqb _ 5 n.0.0.1, ne_eqb _ 6 n.0.1, ne_eqb _ 7 n.1)
