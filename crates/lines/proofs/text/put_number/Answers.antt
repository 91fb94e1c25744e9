use Prim.Native.Nat.{◌≤◌, ◌<◌}
use native.Mathlib.Omega.{arith}
use lib.ListN.{length-append}
use Rattle.lines.proofs.Texts.{twenty, decimal-length, decimal-laid}
use borrow.Author.Rules.{rules}
use Rattle.lines.proofs.text.put_number.Goals as goal

pub overflow_add-at : goal.overflow_add-at
overflow_add-at c =
    let h : c.decimal-k.result ≤ 20 = twenty c.args.n c.decimal-k.result (omega arith) c.decimal-k.ensures.len in
    search rules

pub overflow_add-result : goal.overflow_add-result
overflow_add-result c =
    let h : c.decimal-k.result ≤ 20 = twenty c.args.n c.decimal-k.result (omega arith) c.decimal-k.ensures.len in
    search rules

pub overflow_add-result-2 : goal.overflow_add-result-2
overflow_add-result-2 c =
    let h : c.decimal-k.result ≤ 20 = twenty c.args.n c.decimal-k.result (omega arith) c.decimal-k.ensures.len in
    search rules

pub returns : goal.returns
returns c =
    let b : c.args.n < 18446744073709551616 = omega arith in
    let h : c.decimal-k.result ≤ 20 = twenty c.args.n c.decimal-k.result b c.decimal-k.ensures.len in record { text_after = decimal-laid _ _ _ _ _ _ _ _ b c.decimal-k.ensures.len c.decimal-k.ensures.digits c.copy_over.ensures c.put.ensures; value = (rw length-append (omega (arith, decimal-length c.decimal-k.result c.args.n b c.decimal-k.ensures.len)), omega arith) }
