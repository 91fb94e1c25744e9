use lib.ListN.{drop}
use Rattle.arriving.proofs.Laws.{result-from}
use Rattle.arriving.proofs.event.hear_cut.Goals as goal

pub returns : goal.returns
returns c = record { list = rw (result-from (drop c.args.offset c.args.buf.now) c.args.len c.event_from-e.result c.event_from-e.ensures) at c.hear_result.ensures.list; kept = c.hear_result.ensures.kept }
