use borrow.Author.Rules.{rules}
use mathlib.Core.Path.{refl, ◌∙◌}
use native.Mathlib.Omega.{arith}
use Rattle.effects.specs.Args.{args_of}
use Rattle.exchange_call.proofs.Laws.{left_less, on-turns}
use Rattle.exchange_call.proofs.call_run.Goals as goal

pub loop-t-init : goal.loop-t-init
loop-t-init c = record { log-len = refl; buf-len = refl; session-len = refl; undo-len = refl; held = c.requires.s_value; kept = record { kept = c.requires.kept_2; session = refl; buf = refl }; room = λ h. omega (arith, c.onward-t.ensures.3); turns = λ e x h. h }

pub loop-t-smaller : goal.loop-t-smaller
loop-t-smaller c = left_less c.args.log.now c.call_turn-t.result c.loop-t.t c.loop-t-test.true (c.loop-t.invariant.room c.loop-t-test.true) (λ t. rw c.loop-t.invariant.log-len at (c.call_turn-t.ensures.grew t))

pub loop-t-preserved : goal.loop-t-preserved
loop-t-preserved c = let k = c.call_turn-t.ensures.kept in record { log-len = search rules; buf-len = search rules; session-len = search rules; undo-len = search rules; held = c.call_turn-t.ensures.held; kept = record { kept = k.kept; session = k.session ∙ c.loop-t.invariant.kept.session; buf = k.buf ∙ c.loop-t.invariant.kept.buf }; room = λ t. omega (arith, c.loop-t.invariant.log-len, (c.call_turn-t.ensures.grew t).1); turns = λ e x h. c.call_turn-t.ensures.on e x (rw c.loop-t-test.true at (c.loop-t.invariant.turns e x h)) }

pub shape_of-log : goal.shape_of-log
shape_of-log c = c.loop-t.invariant.log-len

pub returns : goal.returns
returns c = record { on = λ e x p. rw c.loop-t-test.false at (c.loop-t.invariant.turns e x (on-turns (args_of c.args.j c.args.first.now c.args.second.now) e x c.args.rec.now c.args.log.now c.args.s.now c.args.buf.now c.onward-t.result c.args.f 0 0 c.onward-t.ensures.0 c.onward-t.ensures.1 c.onward-t.ensures.2 c.onward-t.ensures.3 p)); held = c.loop-t.invariant.held; kept = c.loop-t.invariant.kept }
