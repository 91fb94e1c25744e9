use Prim.Native.Nat.{◌≤◌}
use mathlib.Core.Path.{◌∙◌}
use native.Mathlib.Omega.{arith}
use lib.ListN.{length, length-take}
use Rattle.lines.proofs.Ends.{line-is}
use Rattle.lines.proofs.Texts.{lines-laid}
use borrow.Author.Rules.{rules}
use Rattle.lines.proofs.text.put_lines.Goals as goal

pub slice_bounds-put_words-end : goal.slice_bounds-put_words-end
slice_bounds-put_words-end c = simp length-take (omega arith)

pub returns : goal.returns
returns c =
    let k : c.put_words.result ≤ length c.args.text.now = omega (arith, c.put_words.ensures.value, length-take c.min-n.result c.args.log.now) in record { text_after = λ e h. lines-laid c.args.text.now c.put_numbers-at.new.text c.put_words.new.text c.args.log.now c.numbers-ns.result c.min-n.result c.args.r.len c.put_numbers-at.result c.put_words.result c.put_numbers-at.ensures.text_after c.put_numbers-at.ensures.value.0 c.min-n.ensures c.put_words.ensures.text_after c.put_words.ensures.value k ∙ line-is c.args.call e c.args.log.now c.args.s.now c.numbers-ns.result c.args.r h (c.numbers-ns.ensures e c.args.log.now h); upper_bound = search rules }
