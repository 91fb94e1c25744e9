use mathlib.Core.List.{[]}
use Rattle.jobs.specs.Jobs.{call_of}
use Rattle.definition.specs.Run.{called}
use Rattle.turning.specs.Turning.{world_in}
use Rattle.entering.proofs.Laws.{handed-end}
use Rattle.entering.proofs.exchange_entry.exchange_here.Goals as goal

pub returns : goal.returns
returns c = handed-end (called (call_of c.args.c c.args.a.now c.args.b.now) (world_in c.args.session.now c.args.buf.now) c.args.rec.now c.args.log.now []) c.run_exchanges-r.result c.args.res.now _ _ _ _ _ c.run_exchanges-r.ensures c.hand.ensures.0 c.hand.ensures.1
