use mathlib.Core.Path.{◌≡◌}
use lib.ListN.{length}
use borrow.Author.Rules.{rules}
use Rattle.scan_table.specs.Table.{laid}
use Rattle.lent_calls.specs.Lent.{call_of, output_of}
use Rattle.lent.proofs.Back.{back}
use Rattle.lent.proofs.table.wifi_call.Goals as goal

pub returns : goal.returns
returns c =
    let a = c.args in
    let p = rw c.list_in-l.ensures at c.on_list-e.ensures.0 in
    let t : c.put_list.new.table ≡ laid a.table.now c.on_list-e.result.list = c.put_list.ensures in
    let size : length c.on_list-e.result.list.records ≡ 32 = search rules in
    let b = back a.table.now a.count a.st a.buf.now (call_of a.c a.a.now a.b.now (length a.out.now)) a.rec.now a.log.now (output_of a.c a.out.now) c.on_list-e.result c.from.result c.put_list.new.table c.on_list-e.new.log c.on_list-e.new.buf (output_of a.c c.on_list-e.new.out) p t c.from.ensures size in
    (b.0, (c.on_list-e.ensures.1, b.1))
