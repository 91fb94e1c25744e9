use mathlib.Core.Path.{refl, sym, ◌∙◌}
use Rattle.control.specs.Poll.{tick_step}
use Rattle.session_bytes.specs.Session.{session_in}
use Rattle.poll_report.proofs.Laws.{still}
use Rattle.poll_now.proofs.Laws.{ticked, over-now, nothing_is}
use Rattle.poll_now.proofs.nothing.Goals as goal

pub returns-in-None : goal.returns-in-None
unfolding tick_step
returns-in-None c = rw (← nothing_is (session_in c.args.s.now).st (session_in c.args.s.now).st.link.state, sym c.disconnect_tick-t.ensures ∙ c.in-None.is) (over-now _ c.over.ensures.0 c.over.ensures.1 c.report.ensures)

pub returns-in-Some : goal.returns-in-Some
unfolding tick_step
returns-in-Some c = rw (← nothing_is (session_in c.args.s.now).st (session_in c.args.s.now).st.link.state, sym c.disconnect_tick-t.ensures ∙ c.in-Some.is) (still c.requires (ticked _ c.now_at.ensures.0 c.now_at.ensures.1) refl)
