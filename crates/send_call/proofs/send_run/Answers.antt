use mathlib.Core.Path.{refl, ap, ◌∙◌}
use native.Mathlib.Omega.{arith}
use lib.ListN.{drop}
use Rattle.going.specs.Onward.{go}
use Rattle.send_call.proofs.Laws.{turns-by}
use Rattle.send_call.proofs.send_run.Goals as goal

pub send_on-requires : goal.send_on-requires
send_on-requires c = record { s_value = c.send_first-n.ensures.held; kept_2 = c.send_first-n.ensures.kept.kept; len_in_bounds = λ t. omega (arith, c.send_now.ensures.grew t) }

pub returns : goal.returns
returns c = record { on = λ e. c.send_on.ensures.on c.args.frame.now (record { whole = refl; most = c.requires.frame_len_bound }) e _ (turns-by c.args.frame.now e c.args.rec.now c.args.log.now _ _ c.send_now.result (ap (λ t. go e (drop 0 c.args.rec.now) c.args.log.now 0 t) c.send_first-n.ensures.on) (c.send_now.ensures.on c.args.frame.now e c.args.rec.now c.args.log.now _ _)); held = c.send_on.ensures.held; kept = record { kept = c.send_on.ensures.kept.kept; session = c.send_on.ensures.kept.session ∙ c.send_first-n.ensures.kept.session; buf = c.send_on.ensures.kept.buf ∙ c.send_first-n.ensures.kept.buf } }
