use mathlib.Core.Path.{refl, ◌∙◌}
use mathlib.Core.Bool.{false}
use native.Mathlib.Omega.{arith}
use Rattle.control.specs.declared.Before.{Before}
use Rattle.control.specs.Meaning.{laid_before}
use Rattle.exchange_call.proofs.Laws.{act-on}
use Rattle.exchange_call.proofs.call_turn.Goals as goal

pub stand-requires : goal.stand-requires
unfolding laid_before
stand-requires c = let k = c.act-n.ensures false Before.None c.args.buf.now refl in record { s_value = k.held.known; kept_2 = k.kept; len_in_bounds = c.requires.len_in_bounds }

pub returns : goal.returns
unfolding laid_before
returns c = let k = c.act-n.ensures false Before.None c.args.buf.now refl in record { on = λ e x p. rw (act-on p (rw c.requires.l_value at (c.act-n.ensures p.heard p.before p.under p.laid))) at (c.stand.ensures.on c.args.first.now c.args.second.now c.requires.second_len_bound c.requires.l_value e); held = c.stand.ensures.held; kept = record { kept = c.stand.ensures.kept.kept; session = c.stand.ensures.kept.session ∙ k.session; buf = c.stand.ensures.kept.buf ∙ k.buf }; grew = c.stand.ensures.grew }
