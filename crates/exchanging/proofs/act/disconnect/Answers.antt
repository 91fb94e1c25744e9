use mathlib.Core.Path.{refl}
use Rattle.exchanging.proofs.Laws.{set}
use Rattle.exchanging.proofs.act.disconnect.Goals as goal

pub returns : goal.returns
returns c = λ h before. set (rw c.put_wifi.ensures.back at c.put_tick.ensures) c.end.ensures refl
