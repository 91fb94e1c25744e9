use mathlib.Core.Path.{◌≡◌, refl}
use borrow.Author.Rules.{rules}
use Rattle.send_points.specs.declared.SendKind.{SendKind}
use Rattle.reply_points.specs.declared.IoctlKind.{IoctlKind}
use Rattle.reply_points.specs.ReplyPoints.{stall_of}
use Rattle.reply_points.proofs.stall_kind.Goals as goal

others : (k : IoctlKind) → (k ≡ IoctlKind.StallFirst → ⊥) → (k ≡ IoctlKind.StallPolling → ⊥) → (k ≡ IoctlKind.StallLate → ⊥) → SendKind.Waited ≡ stall_of k
unfolding stall_of
others IoctlKind.StallFirst a b d = absurd (a refl)
others IoctlKind.StallPolling a b d = absurd (b refl)
others IoctlKind.StallLate a b d = absurd (d refl)
others _ a b d = refl

pub returns-in-StallFirst : goal.returns-in-StallFirst
unfolding stall_of
returns-in-StallFirst c = search rules

pub returns-in-StallPolling : goal.returns-in-StallPolling
unfolding stall_of
returns-in-StallPolling c = search rules

pub returns-in-StallLate : goal.returns-in-StallLate
unfolding stall_of
returns-in-StallLate c = search rules

pub returns-in_default : goal.returns-in_default
returns-in_default c = others c.args.kind c.in_default.not-StallFirst c.in_default.not-StallPolling c.in_default.not-StallLate
