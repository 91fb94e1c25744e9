use mathlib.Core.Path.{refl, sym, ◌∙◌}
use Rattle.poll_report.specs.PollReport.{reportable}
use Rattle.poll_report.proofs.reportable.Goals as goal

pub returns-in-Down : goal.returns-in-Down
unfolding reportable
returns-in-Down c = rw (sym c.wifi_at-state.ensures ∙ c.in-Down.is) c.failure_at.ensures

pub returns-in-Connecting : goal.returns-in-Connecting
unfolding reportable
returns-in-Connecting c = rw (sym c.wifi_at-state.ensures ∙ c.in-Connecting.is) refl

pub returns-in-Connected : goal.returns-in-Connected
unfolding reportable
returns-in-Connected c = rw (sym c.wifi_at-state.ensures ∙ c.in-Connected.is) refl

pub returns-in-Disconnecting : goal.returns-in-Disconnecting
unfolding reportable
returns-in-Disconnecting c = rw (sym c.wifi_at-state.ensures ∙ c.in-Disconnecting.is) refl
