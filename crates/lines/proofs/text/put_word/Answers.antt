use Prim.Native.Nat.{◌<◌}
use mathlib.Core.Path.{◌≡◌}
use native.Mathlib.Omega.{arith}
use Rattle.lines.proofs.Texts.{eight, hex-laid}
use borrow.Author.Rules.{rules}
use Rattle.lines.proofs.text.put_word.Goals as goal

pub overflow_add-at : goal.overflow_add-at
overflow_add-at c =
    let h : c.hex-k.result ≡ 8 = eight c.args.w c.hex-k.result (omega arith) c.hex-k.ensures.len in
    search rules

pub returns : goal.returns
returns c =
    let b : c.args.w < 4294967296 = omega arith in
    hex-laid _ _ _ _ _ _ _ _ b c.hex-k.ensures.len c.hex-k.ensures.digits c.copy_over.ensures c.put.ensures
