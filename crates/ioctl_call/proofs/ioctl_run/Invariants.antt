use Rattle.ioctl_call.proofs.Laws.{Going, words}
use Rattle.ioctl_call.proofs.ioctl_run.Given as goal

abbrev pub invariant-loop-t : goal.invariant-loop-t
invariant-loop-t l = Going l.n l.rec l.initial.s l.initial.undo l.initial.log l.initial.buf l.initial.t l.s l.undo l.log l.buf l.t

abbrev pub decreases-loop-t : goal.decreases-loop-t
decreases-loop-t l = words l.initial.log l.t
