use mathlib.Core.Path.{refl}
use Rattle.effects.specs.Args.{args_of}
use Rattle.jobs.specs.Jobs.{no_job}
use Rattle.session_bytes.specs.Session.{session_in}
use Rattle.starting.specs.Starting.{job_of, step_of}
use Rattle.runs.proofs.Laws.{done-ends, refused-ends}
use Rattle.runs.proofs.exchanges.start_run.Goals as goal

pub returns-in-Exchange-clause-on : goal.returns-in-Exchange-clause-on
unfolding job_of step_of
returns-in-Exchange-clause-on c = simp c.in-Exchange.is c.exchange_run.ensures.on

pub returns-in-Done-clause-on : goal.returns-in-Done-clause-on
unfolding job_of step_of
returns-in-Done-clause-on c = λ e. rw c.in-Done.is (done-ends (args_of no_job c.args.first.now c.args.second.now) e (session_in c.args.s.now).st c.args.rec.now c.args.log.now c.args.s.now c.args.buf.now _ refl c.done_end.ensures)

pub returns-in-Refused-clause-on : goal.returns-in-Refused-clause-on
unfolding job_of step_of
returns-in-Refused-clause-on c = λ e. rw c.in-Refused.is (refused-ends (args_of no_job c.args.first.now c.args.second.now) e (session_in c.args.s.now).st c.args.rec.now c.args.log.now c.args.s.now c.args.buf.now _ c.in-Refused.e refl c.error_end.ensures.1 c.error_end.ensures.0)
