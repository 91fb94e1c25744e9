use Rattle.wlan.specs.declared.State.{State}
use Rattle.control.specs.Poll.{report_step, poll_tick}
use Rattle.poll_report.proofs.Laws.{quiet-moved}
use Rattle.poll_report.proofs.poll_tick.Goals as goal

pub returns : goal.returns
unfolding poll_tick
returns c = quiet-moved (λ (s : State). report_step s) c.timed_out.ensures c.report.ensures
