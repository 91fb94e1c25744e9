use borrow.Author.Rules.{rules}
use mathlib.Core.Path.{refl}
use mathlib.Core.List.{[], ◌∷◌}
use Rattle.slices.specs.Le.{le16, le32}
use Rattle.slices.proofs.Over.{run_none, run_more}
use Rattle.places.proofs.Laws.{reply-put}
use Rattle.places.proofs.write.put_reply.Goals as goal

pub returns : goal.returns
returns c =
    let p = c.reply_parts-p.result in
    let r₁ = run_more (p.tag ∷ []) run_none refl c.put_whole.ensures in
    let r₂ = run_more (le16 p.offset) r₁ refl (rw c.to_le_bytes.ensures at c.put_whole-2.ensures) in
    let r₃ = run_more (le16 p.len) r₂ refl (rw c.to_le_bytes-2.ensures at c.put_whole-3.ensures) in
    let r₄ = run_more (le32 p.status) r₃ refl (rw c.to_le_bytes-3.ensures at c.put_whole-4.ensures) in
    reply-put c.args.s.now c.requires c.args.x p c.reply_parts-p.ensures.0 c.reply_parts-p.ensures.1 (search rules) (search rules) (search rules) r₄.is
