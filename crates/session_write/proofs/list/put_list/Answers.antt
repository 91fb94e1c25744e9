use mathlib.Core.Path.{ap, sym, ◌∙◌}
use mathlib.Core.List.{List}
use Prim.Native.Nat.{ℕ, ◌+◌, ◌*◌}
use Rattle.slices.specs.Le.{le32_at}
use Rattle.session_bytes.proofs.Laws.{list-size, list_back}
use Rattle.session_write.proofs.Laws.{list_put}
use Rattle.session_write.proofs.list.put_list.Goals as goal

pub returns : goal.returns
returns c = let w = c.put_records.ensures.back in record { put = list_put c.args.out.now c.args.l c.count_bytes.ensures.0 c.copy_over.ensures c.put_records.ensures.put; back = (list-size c.args.l w.0 w.1, list_back c.args.l w.0 w.1 (ap (λ (b : List ℕ). le32_at b 0 + 4294967296 * le32_at b 4) (sym c.count_bytes.ensures.0) ∙ c.count_bytes.ensures.1)) }
