use Prim.Native.Nat.{◌-◌}
use borrow.Author.Tests.{lt-ltb, le-ltb}
use Rattle.ending.specs.Take as frame
use native.Mathlib.Nat.{add-sub_cancel_left}
use Rattle.ending.proofs.take.take_frame.Goals as goal

pub returns-then-out-n : goal.returns-then-out-n
unfolding frame.frame_taken
returns-then-out-n c = λ log l. rw (c.driver_error.ensures, c.frameless-s.ensures, lt-ltb _ _ c.if-out-n.true)

pub returns-then-buf-offset : goal.returns-then-buf-offset
unfolding frame.frame_taken
returns-then-buf-offset c = λ log l. rw (c.driver_error-then-buf-offset.ensures, c.frameless-s.ensures, le-ltb _ _ c.if-out-n.false, lt-ltb _ _ c.if-buf-offset.true)

pub returns : goal.returns
unfolding frame.frame_taken
returns c = λ log l. rw (c.ended.ensures, c.frameless-s.ensures, le-ltb _ _ c.if-out-n.false, le-ltb _ _ c.if-buf-offset.false, c.copy_over.ensures, add-sub_cancel_left)
