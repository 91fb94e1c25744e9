use native.Mathlib.Omega.{arith}
use lib.ListN.{drop_of_length-le}
use lib.Seq.{drop-length}
use Rattle.slices.proofs.Over.{part-rest}
use Rattle.event_state.proofs.event_from.Goals as goal

pub returns-then-buf-offset : goal.returns-then-buf-offset
returns-then-buf-offset c = rw (drop_of_length-le c.args.buf.now {i = c.args.offset} (omega arith)) (rw (part-rest, drop-length) at c.event_bytes.ensures)

pub returns : goal.returns
returns c = rw part-rest at c.event_bytes-2.ensures
