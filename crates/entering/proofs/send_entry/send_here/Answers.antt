use mathlib.Core.List.{[]}
use Rattle.definition.specs.Calls.{Call}
use Rattle.definition.specs.Run.{called}
use Rattle.turning.specs.Turning.{world_in}
use Rattle.entering.proofs.Laws.{handed-end}
use Rattle.entering.proofs.send_entry.send_here.Goals as goal

pub returns : goal.returns
returns c = handed-end (called (Call.send_data c.args.interface c.args.frame.now) (world_in c.args.session.now c.args.buf.now) c.args.rec.now c.args.log.now []) c.run_send-r.result c.args.res.now _ _ _ _ _ c.run_send-r.ensures c.hand.ensures.0 c.hand.ensures.1
