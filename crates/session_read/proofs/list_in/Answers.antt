use Rattle.session_bytes.specs.ListBytes.{list_in}
use Rattle.session_read.proofs.Laws.{count-is}
use Rattle.session_read.proofs.list_in.Goals as goal

pub returns : goal.returns
unfolding list_in
returns c =
    let n = rw c.bytes_at.ensures at c.from_le_bytes.ensures in
    rw (c.records_in.ensures, count-is c.args.p.now n)
