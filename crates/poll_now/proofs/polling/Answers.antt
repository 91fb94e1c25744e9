use mathlib.Core.Path.{refl}
use Rattle.control.specs.Poll.{polling_step}
use Rattle.poll_report.proofs.Laws.{still}
use Rattle.poll_now.proofs.Laws.{asked}
use Rattle.poll_now.proofs.polling.Goals as goal

pub returns : goal.returns
unfolding polling_step
returns c = λ h. still c.requires (rw c.poll_from.ensures at (asked c.asks.result c.asks.ensures.0 c.asks.ensures.1)) refl
