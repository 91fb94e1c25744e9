use mathlib.Core.Path.{◌∙◌}
use Rattle.runs.proofs.Laws.{left}
use Rattle.runs.proofs.frames.send_kept.Goals as goal

pub returns : goal.returns
returns c = left c.send_any-r.ensures.ends (c.settle.ensures c.args.s.now _ c.args.buf.now _ c.requires.s_value (λ t. c.send_any-r.ensures.kept.session ∙ c.keep_front.ensures.3) (λ t. c.send_any-r.ensures.kept.buf ∙ c.keep_front.ensures.4 c.args.buf.now) c.send_any-r.ensures.ends)
