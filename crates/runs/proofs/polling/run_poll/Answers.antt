use mathlib.Core.Path.{◌∙◌}
use Rattle.turning.specs.Turning.{world_in}
use Rattle.runs.proofs.Laws.{left, poll-called}
use Rattle.runs.proofs.polling.run_poll.Goals as goal

pub returns : goal.returns
returns c = let h = rw (poll-called c.args.s.now c.args.rec.now c.args.log.now c.args.buf.now c.told-buf) at (c.poll_run-r.ensures.on (world_in c.args.s.now c.args.buf.now)) in left h (c.settle.ensures c.args.s.now _ c.args.buf.now _ c.requires.s_value (λ t. c.poll_run-r.ensures.kept.session ∙ c.keep_front.ensures.3) (λ t. c.poll_run-r.ensures.kept.buf ∙ c.keep_front.ensures.4 c.args.buf.now) h)
