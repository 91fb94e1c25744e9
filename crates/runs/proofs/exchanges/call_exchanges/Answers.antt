use native.Mathlib.Omega.{arith}
use lib.ListN.{take, length-take}
use Rattle.jobs.specs.Jobs.{call_of}
use Rattle.runs.proofs.Laws.{start-runs}
use Rattle.runs.proofs.exchanges.call_exchanges.Goals as goal

pub slice_bounds-start_run-end : goal.slice_bounds-start_run-end
slice_bounds-start_run-end c = omega (arith, length-take c.at_most-n.result c.args.a.now, c.at_most-n.ensures.most.2)

pub slice_bounds-start_run-end-2 : goal.slice_bounds-start_run-end-2
slice_bounds-start_run-end-2 c = omega (arith, length-take c.at_most-m.result c.args.b.now, c.at_most-m.ensures.most.2)

pub start_run-requires : goal.start_run-requires
start_run-requires c = record { s_value = c.start-x.ensures.holds.known; kept_2 = c.requires.kept; second_len_bound = omega (arith, length-take c.at_most-n.result c.args.a.now, c.at_most-n.ensures.most.1, length-take c.at_most-m.result c.args.b.now, c.at_most-m.ensures.most.1, c.longest-most.ensures.most.0, c.longest-most.ensures.most.1) }

pub returns : goal.returns
returns c = start-runs (call_of c.args.c c.args.a.now c.args.b.now) (take c.at_most-n.result c.args.a.now) (take c.at_most-m.result c.args.b.now) c.start-x.result c.args.s.now c.start-x.new.s _ c.args.rec.now c.args.log.now _ c.args.undo.now _ c.args.buf.now _ _ c.requires.s_value c.requires.kept c.told-buf (rw (c.at_most-n.ensures.cut, c.at_most-m.ensures.cut, c.longest-most.ensures.is) c.start-x.ensures.starts) c.start-x.ensures.holds c.start_run.ensures.on c.start_run.ensures.held c.start_run.ensures.kept
