use mathlib.Core.Path.{refl, sym, ◌∙◌}
use native.Mathlib.Omega.{arith}
use Rattle.send_call.proofs.Laws.{left_less}
use borrow.Author.Rules.{rules}
use Rattle.send_call.proofs.send_on.Goals as goal

pub loop-t-init : goal.loop-t-init
loop-t-init c = record { log-len = refl; buf-len = c.told-buf; session-len = refl; undo-len = refl; held = c.requires.s_value; kept = record { kept = c.requires.kept_2; session = refl; buf = refl }; room = c.requires.len_in_bounds; turns = λ frame z e x h. h }

pub loop-t-smaller : goal.loop-t-smaller
loop-t-smaller c = left_less c.args.log.now c.send_turn-t.result c.loop-t.t c.loop-t-test.true (c.loop-t.invariant.room c.loop-t-test.true) (λ t. rw c.loop-t.invariant.log-len at (c.send_turn-t.ensures.grew t))

pub loop-t-preserved : goal.loop-t-preserved
loop-t-preserved c = record { log-len = search rules; buf-len = search rules; session-len = search rules; undo-len = search rules; held = c.send_turn-t.ensures.held; kept = record { kept = c.send_turn-t.ensures.kept.kept; session = c.send_turn-t.ensures.kept.session ∙ c.loop-t.invariant.kept.session; buf = c.send_turn-t.ensures.kept.buf ∙ c.loop-t.invariant.kept.buf }; room = λ t. omega (arith, c.loop-t.invariant.log-len, (c.send_turn-t.ensures.grew t).1); turns = λ frame z e x h. rw (rw c.loop-t-test.true at (c.loop-t.invariant.turns frame z e x h)) at (c.send_turn-t.ensures.on frame z e) }

pub shape_of-log : goal.shape_of-log
shape_of-log c = c.loop-t.invariant.log-len

pub returns : goal.returns
returns c = record { on = λ frame z e x h. rw c.loop-t-test.false at (c.loop-t.invariant.turns frame z e x h); held = c.loop-t.invariant.held; kept = c.loop-t.invariant.kept }
