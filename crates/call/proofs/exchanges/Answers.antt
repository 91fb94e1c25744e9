use native.Mathlib.Omega.{arith}
use Rattle.jobs.specs.Jobs.{call_of}
use Rattle.call.proofs.Laws as law
use borrow.Author.Rules.{rules}
use Rattle.call.proofs.exchanges.Goals as goal

pub returns-in_default : goal.returns-in_default
returns-in_default c = law.other-called (call_of c.args.c c.args.a.now c.args.b.now) c.args.st c.args.list c.args.rec.now c.args.log.now c.args.buf.now c.other_length.ensures c.in_default.ensures.cases

pub run_exchanges-r-requires : goal.run_exchanges-r-requires
run_exchanges-r-requires c = record { s_value = rw c.put_session.ensures.put c.put_session.ensures.back.0 }

pub end_of-requires : goal.end_of-requires
end_of-requires c = c.run_exchanges-r.ensures.held

pub returns : goal.returns
returns c = law.by_value (call_of c.args.c c.args.a.now c.args.b.now) c.args.st c.args.list c.args.rec.now c.args.log.now c.args.buf.now c.put_session.ensures.put c.put_session.ensures.back.1 (rw c.in-Some.ensures.cases.same at c.run_exchanges-r.ensures) c.end_of.ensures
