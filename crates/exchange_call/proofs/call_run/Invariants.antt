use Rattle.effects.specs.Args.{args_of}
use Rattle.exchange_call.proofs.Laws.{Running, left}
use Rattle.exchange_call.proofs.call_run.Given as goal

abbrev pub invariant-loop-t : goal.invariant-loop-t
invariant-loop-t l = Running (args_of l.j l.first l.second) l.rec l.initial.s l.initial.undo l.initial.log l.initial.buf l.initial.t l.s l.undo l.log l.buf l.t

abbrev pub decreases-loop-t : goal.decreases-loop-t
decreases-loop-t l = left l.initial.log l.t
