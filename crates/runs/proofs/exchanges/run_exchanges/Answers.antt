use mathlib.Core.Path.{◌∙◌}
use Rattle.runs.proofs.Laws.{left}
use Rattle.runs.proofs.exchanges.run_exchanges.Goals as goal

pub returns : goal.returns
returns c = left c.call_exchanges-r.ensures.ends (c.settle.ensures c.args.s.now _ c.args.buf.now _ c.requires.s_value (λ t. c.call_exchanges-r.ensures.kept.session ∙ c.keep_front.ensures.3) (λ t. c.call_exchanges-r.ensures.kept.buf ∙ c.keep_front.ensures.4 c.args.buf.now) c.call_exchanges-r.ensures.ends)
