use Prim.Native.Nat.{min}
use mathlib.Core.Path.{◌≡◌}
use native.Mathlib.Omega.{arith}
use lib.ListN.{length}
use borrow.Author.Rules.{rules}
use Rattle.scan_table.proofs.Laws.{front_laid}
use Rattle.scan_table.proofs.table.put_list.Goals as goal

pub returns : goal.returns
returns c =
    let size : length c.args.l.records ≡ 32 = search rules in
    let n : c.min-n.result ≡ min (length c.args.l.records) (length c.args.table.now) = omega arith in
    rw c.copy_from_slice.ensures.after (front_laid c.args.table.now c.args.l.records c.min-n.result n)
