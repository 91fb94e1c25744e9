use mathlib.Core.Path.{◌≡◌, ◌∙◌}
use native.Mathlib.Omega.{arith}
use Rattle.slices.specs.Le.{le32}
use Rattle.slices.proofs.Over.{put-over}
use Rattle.put_words.proofs.put_whole.Goals as goal

pub returns : goal.returns
returns c =
    let a = c.args in
    let e : c.copy_from_slice.new.self ≡ le32 a.w = c.copy_from_slice.ensures.after ∙ c.to_le_bytes.ensures in
    rw e (put-over _ _ _ (le32 a.w) c.requires (omega arith))
