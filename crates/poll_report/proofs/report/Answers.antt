use mathlib.Core.Path.{refl, sym, ◌∙◌}
use Rattle.wlan.specs.declared.WlanPollResult.{WlanPollResult}
use Rattle.control.specs.Poll.{down_report}
use Rattle.session_bytes.specs.Session.{session_in}
use Rattle.poll_report.proofs.Laws.{report-is, polled-gives, still, changed}
use Rattle.poll_report.proofs.report.Goals as goal

pub returns-in-None : goal.returns-in-None
unfolding down_report
returns-in-None c = rw (← report-is (session_in c.args.s.now).st (session_in c.args.s.now).st.link.state, sym c.reportable-f.ensures ∙ c.in-None.is) (still c.requires (rw c.unfailed.ensures (polled-gives WlanPollResult.None)) refl)

pub returns-in-Some : goal.returns-in-Some
unfolding down_report
returns-in-Some c = rw (← report-is (session_in c.args.s.now).st (session_in c.args.s.now).st.link.state, sym c.reportable-f.ensures ∙ c.in-Some.is) (changed c.put_failure.ensures (rw (c.failed_join.ensures, c.in-Some.is) (polled-gives (WlanPollResult.ConnectFailed _))) refl)
