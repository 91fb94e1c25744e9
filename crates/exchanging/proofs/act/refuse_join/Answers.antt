use mathlib.Core.Path.{refl}
use Rattle.wlan.specs.declared.DriverError.{DriverError}
use Rattle.wlan.specs.declared.State.{State}
use Rattle.wlan.specs.declared.WifiState.{WifiState}
use Rattle.control.specs.Steps.{refuses, linked_state}
use Rattle.exchanging.proofs.Laws.{set, set-moved}
use Rattle.exchanging.proofs.act.refuse_join.Goals as goal

pub returns : goal.returns
returns c = λ h before. set-moved (λ (s : State). refuses (linked_state s WifiState.Down) h before DriverError.InvalidArg) c.connecting.ensures (set c.put_wifi.ensures c.refuse.ensures refl)
