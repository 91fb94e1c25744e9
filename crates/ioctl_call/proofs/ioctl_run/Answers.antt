use borrow.Author.Rules.{rules}
use mathlib.Core.Path.{refl, sym, ◌∙◌}
use mathlib.Core.Bool.{true≢false}
use native.Mathlib.Omega.{arith}
use Rattle.ioctl_call.proofs.Laws.{words-less, goes_on, stood_on, on-stood, asks-on, begun-on}
use Rattle.ioctl_call.proofs.ioctl_run.Goals as goal

pub loop-t-init : goal.loop-t-init
loop-t-init c = record { log-len = refl; buf-len = refl; session-len = refl; undo-len = refl; held = c.requires.s_value; kept = record { kept = c.requires.kept_2; session = refl; buf = refl }; asks = rw (c.ioctl_from-t.ensures.0, c.ioctl_from-t.ensures.1, c.ioctl_from-t.ensures.3) refl; room = λ h. rw c.ioctl_from-t.ensures.3 (omega arith, c.requires.len_in_bounds); grew = λ h. absurd (true≢false (sym c.ioctl_from-t.ensures.0 ∙ h)); turns = λ a g f e x h. h }

pub loop-t-smaller : goal.loop-t-smaller
loop-t-smaller c = let o = goes_on c.loop-t.t (sym c.loop-t.invariant.asks ∙ c.loop-t-test.true) in words-less c.args.log.now c.ioctl_turn-t.result c.loop-t.t c.loop-t-test.true (c.loop-t.invariant.room o.0).1 (λ h. rw c.loop-t.invariant.log-len at (c.ioctl_turn-t.ensures.grew (goes_on c.ioctl_turn-t.result (sym c.ioctl_turn-t.ensures.asks ∙ h)).0))

pub loop-t-preserved : goal.loop-t-preserved
loop-t-preserved c = let o = goes_on c.loop-t.t (sym c.loop-t.invariant.asks ∙ c.loop-t-test.true) in let p = c.loop-t.invariant.room o.0 in let k = c.ioctl_turn-t.ensures.kept in record { log-len = search rules; buf-len = search rules; session-len = search rules; undo-len = search rules; held = c.ioctl_turn-t.ensures.held; kept = record { kept = k.kept; session = k.session ∙ c.loop-t.invariant.kept.session; buf = k.buf ∙ c.loop-t.invariant.kept.buf }; asks = c.ioctl_turn-t.ensures.asks; room = λ i. let q = c.ioctl_turn-t.ensures.grew i in (omega (arith, p.0, q.0), omega (arith, c.loop-t.invariant.log-len, q.1)); grew = λ h i. let q = c.ioctl_turn-t.ensures.grew i in omega (arith, p.0, q.0); turns = λ a g f e x h. rw (asks-on c.loop-t.t.now o.1 (stood_on a g e x c.args.rec.now c.loop-t.t c.loop-t.log c.loop-t.s c.loop-t.buf o.0 (c.loop-t.invariant.turns a g f e x h))) at (c.ioctl_turn-t.ensures.on a g f e) }

pub shape_of-log : goal.shape_of-log
shape_of-log c = c.loop-t.invariant.log-len

pub returns : goal.returns
returns c = let t₀ = c.ioctl_from-t.result in let w = c.ioctl_from-t.ensures in record { on = λ a g f e. c.loop-t.invariant.turns a g f e _ (on-stood a g e _ c.args.rec.now t₀ c.args.log.now c.args.s.now c.args.buf.now (rw w.3 refl) (rw (w.3, ← w.2) (begun-on t₀.now w.1))); asks = (c.loop-t-test.false, c.loop-t.invariant.asks); held = c.loop-t.invariant.held; kept = c.loop-t.invariant.kept; grew = λ i. (rw w.3 at (c.loop-t.invariant.grew c.loop-t-test.false i), (c.loop-t.invariant.room i).1) }
