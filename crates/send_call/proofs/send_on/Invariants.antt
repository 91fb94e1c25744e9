use Rattle.send_call.proofs.Laws.{Running, left}
use Rattle.send_call.proofs.send_on.Given as goal

abbrev pub invariant-loop-t : goal.invariant-loop-t
invariant-loop-t l = Running l.size l.rec l.initial.s l.initial.undo l.initial.log l.initial.buf l.initial.t l.s l.undo l.log l.buf l.t

abbrev pub decreases-loop-t : goal.decreases-loop-t
decreases-loop-t l = left l.initial.log l.t
