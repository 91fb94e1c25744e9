use Prim.Native.Nat.{min}
use mathlib.Core.Path.{◌≡◌}
use native.Mathlib.Omega.{arith}
use lib.ListN.{length}
use borrow.Author.Rules.{rules}
use Rattle.scan_table.proofs.Laws.{front_laid}
use Rattle.scan_table.proofs.table.list_in.Goals as goal

pub returns : goal.returns
returns c =
    let size : length c.empty_list.result.records ≡ 32 = search rules in
    let n : c.min-n.result ≡ min (length c.args.table.now) (length c.empty_list.result.records) = omega arith in
    rw c.copy_from_slice.ensures.after (rw (front_laid c.empty_list.result.records c.args.table.now c.min-n.result n, c.empty_list.ensures.0))
