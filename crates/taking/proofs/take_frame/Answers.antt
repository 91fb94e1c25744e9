use borrow.Author.Tests.{lt-ltb, le-ltb}
use native.Mathlib.Nat.{add-sub_cancel_left}
use Rattle.wlan.specs.declared.DriverError.{DriverError}
use Rattle.wlan.specs.declared.Refusal.{Refusal}
use Rattle.wlan.specs.declared.Success.{Success}
use Rattle.ending.specs.Take as frame
use Rattle.taking.proofs.Laws as law
use Rattle.taking.proofs.take_frame.Goals as goal
use Rattle.std.specs.Prelude.{Ok, Err}

pub returns-then-out-n : goal.returns-then-out-n
unfolding frame.frame_taken
returns-then-out-n c = λ log. law.dropped (Err (Refusal.Driver DriverError.NoMem)) c.args.s.now _ log c.args.buf.now _ c.put_frame.ensures c.error_end.ensures.0 c.error_end.ensures.1 (rw (lt-ltb _ _ c.if-out-n.true))

pub returns-then-buf-offset : goal.returns-then-buf-offset
unfolding frame.frame_taken
returns-then-buf-offset c = λ log. law.dropped (Err (Refusal.Driver DriverError.PastBuffer)) c.args.s.now _ log c.args.buf.now _ c.put_frame.ensures c.error_end-then-buf-offset.ensures.0 c.error_end-then-buf-offset.ensures.1 (rw (le-ltb _ _ c.if-out-n.false, lt-ltb _ _ c.if-buf-offset.true))

pub returns : goal.returns
unfolding frame.frame_taken
returns c = λ log. law.dropped (Ok (Success.Taken c.args.f.len)) c.args.s.now _ log c.args.buf.now _ c.put_frame.ensures c.success_end.ensures.0 c.success_end.ensures.1 (rw (le-ltb _ _ c.if-out-n.false, le-ltb _ _ c.if-buf-offset.false, c.copy_over.ensures, add-sub_cancel_left))
