use mathlib.Core.Path.{ap, sym, ◌∙◌}
use Rattle.slices.specs.Le.{le16_at, signed16}
use Rattle.session_bytes.proofs.Laws.{record-put, record-whole}
use borrow.Author.Rules.{rules}
use Rattle.session_bytes.proofs.list.put_record.Goals as goal

pub returns : goal.returns
returns c = record { put = record-put c.args.out.now c.args.at c.args.r (search rules) (search rules) c.tail_bytes.ensures.0 c.put_whole.ensures c.put_whole-2.ensures c.put_whole-3.ensures; back = record-whole c.args.r (search rules) (search rules) (ap (λ l. signed16 (le16_at l 2)) (sym c.tail_bytes.ensures.0) ∙ c.tail_bytes.ensures.1) }
