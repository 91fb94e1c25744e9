use mathlib.Core.Path.{◌∙◌}
use Rattle.device.specs.Poll.{poll_start}
use Rattle.polls.specs.Polls.{first_point}
use native.Mathlib.Omega.{arith}
use Rattle.poll_call.proofs.poll_run.Goals as goal

pub poll_on-requires : goal.poll_on-requires
poll_on-requires c = record { s_value = c.first_turn-t.ensures.held.known; kept_2 = c.requires.kept_2; len_in_bounds = λ t. omega (arith, c.first_turn-t.ensures.grew t) }

pub returns : goal.returns
unfolding first_point poll_start
returns c = record { on = λ e. c.poll_on.ensures.on e _ (rw c.sdpcm_at-sdpcm.ensures at (c.first_turn-t.ensures.on e c.args.buf.now)); held = c.poll_on.ensures.held; kept = record { kept = c.poll_on.ensures.kept.kept; session = c.poll_on.ensures.kept.session ∙ c.first_turn-t.ensures.held.back _ c.requires.kept_2; buf = c.poll_on.ensures.kept.buf } }
