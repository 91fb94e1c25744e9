use borrow.Author.Rules.{rules}
use native.Mathlib.Omega.{arith}
use Rattle.slices.proofs.Over.{run_none}
use Rattle.session_bytes.specs.ListBytes.{records_bytes}
use Rattle.session_write.proofs.Laws.{each_next, records-next}
use Rattle.session_write.proofs.list.put_records.Goals as goal

pub loop-i-init : goal.loop-i-init
unfolding records_bytes
loop-i-init c = (search rules, (search rules), c.told-out, run_none, tt)

pub loop-i-preserved : goal.loop-i-preserved
loop-i-preserved c = (search rules, c.loop-i.invariant.1, c.loop-i.invariant.2, records-next c.args.records c.loop-i.i _ (omega arith) c.loop-i.invariant.4 c.loop-i.invariant.3 c.put_record.ensures.put, each_next c.args.records c.loop-i.i _ (omega arith) c.loop-i.invariant.4 c.put_record.ensures.back)
