use native.Mathlib.Omega.{arith}
use lib.ListN.{take, length-take}
use Rattle.slices.proofs.Over.{run_none, run_more}
use Rattle.lines.specs.Text.{words_of}
use Rattle.lines.proofs.Texts.{words_more, length-words}
use borrow.Author.Rules.{rules}
use Rattle.lines.proofs.text.put_words.Goals as goal

pub loop-w-init : goal.loop-w-init
unfolding words_of
loop-w-init c = (search rules, search rules, run_none)

pub loop-w-preserved : goal.loop-w-preserved
loop-w-preserved c = (search rules, omega arith, rw (words_more c.args.log.now c.loop-w.w-index c.loop-w-test.true) (run_more _ c.loop-w.invariant.2 (omega (arith, length-words (take c.loop-w.w-index c.args.log.now), length-take c.loop-w.w-index c.args.log.now)) c.put_word.ensures))
