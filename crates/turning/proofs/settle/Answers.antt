use mathlib.Core.Path.{◌∙◌}
use Rattle.session_bytes.proofs.Laws.{session-length}
use Rattle.turning.proofs.Laws.{put_back}
use Rattle.turning.proofs.settle.Goals as goal

pub put_back-requires : goal.put_back-requires
put_back-requires c = record { kept = c.requires.kept }

pub returns-then-r : goal.returns-then-r
returns-then-r c = λ session₀ log buf₀ e k hs hb h. put_back k (c.put_back.ensures.0 ∙ hs c.if-r.true) (c.put_back.ensures.1 ∙ hb c.if-r.true) c.if-r.true h

pub returns-else-r : goal.returns-else-r
returns-else-r c = λ session₀ log buf₀ e k hs hb h. (c.requires.session_value, rw c.if-r.false at h.left)
