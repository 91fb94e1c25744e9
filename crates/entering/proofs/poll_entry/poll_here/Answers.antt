use mathlib.Core.List.{[]}
use Rattle.definition.specs.Calls.{Call}
use Rattle.definition.specs.Run.{called}
use Rattle.turning.specs.Turning.{world_in}
use Rattle.entering.proofs.Laws.{handed-end}
use Rattle.entering.proofs.poll_entry.poll_here.Goals as goal

pub returns : goal.returns
returns c = handed-end (called (Call.wifi_poll) (world_in c.args.session.now c.args.buf.now) c.args.rec.now c.args.log.now []) c.run_poll-r.result c.args.res.now _ _ _ _ _ c.run_poll-r.ensures c.hand.ensures.0 c.hand.ensures.1
