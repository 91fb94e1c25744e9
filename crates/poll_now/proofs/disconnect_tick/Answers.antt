use mathlib.Core.Path.{refl, sym, ◌∙◌}
use Rattle.poll_now.specs.PollNow.{disconnect_tick}
use Rattle.poll_now.proofs.disconnect_tick.Goals as goal

pub returns-in-Down : goal.returns-in-Down
unfolding disconnect_tick
returns-in-Down c = rw (sym c.wifi_at-state.ensures ∙ c.in-Down.is) refl

pub returns-in-Connecting : goal.returns-in-Connecting
unfolding disconnect_tick
returns-in-Connecting c = rw (sym c.wifi_at-state.ensures ∙ c.in-Connecting.is) refl

pub returns-in-Connected : goal.returns-in-Connected
unfolding disconnect_tick
returns-in-Connected c = rw (sym c.wifi_at-state.ensures ∙ c.in-Connected.is) refl

pub returns-in-Disconnecting : goal.returns-in-Disconnecting
unfolding disconnect_tick
returns-in-Disconnecting c = rw (sym c.wifi_at-state.ensures ∙ c.in-Disconnecting.is) c.tick_at.ensures
