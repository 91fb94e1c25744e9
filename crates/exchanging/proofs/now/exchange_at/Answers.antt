use mathlib.Core.Path.{refl}
use Rattle.exchanging.specs.Exchanging.{next_by}
use Rattle.exchanging.proofs.now.exchange_at.Goals as goal

pub returns : goal.returns
unfolding next_by
returns c = refl
