use mathlib.Core.Path.{sym, ◌∙◌}
use native.Mathlib.Omega.{arith}
use Rattle.wlan.specs.declared.DriverError.{DriverError}
use Rattle.wlan.specs.declared.Refusal.{Refusal}
use Rattle.ending.proofs.Takes as ending
use Rattle.turning.specs.Turning.{world_in}
use Rattle.taking.proofs.Laws as law
use Rattle.taking.proofs.run_take.Goals as goal
use Rattle.std.specs.Prelude.{Err}

pub returns-then-buf-ne2048 : goal.returns-then-buf-ne2048
returns-then-buf-ne2048 c = λ rec log. law.leaves (Err Refusal.BufferLength) c.args.s.now log c.args.buf.now c.args.out.now c.other_length.ensures (omega arith) c.requires (ending.take-13 (world_in c.args.s.now c.args.buf.now) rec log c.args.out.now c.if-buf-ne2048.true)

pub returns-in-None : goal.returns-in-None
returns-in-None c = λ rec log. law.leaves (Err (Refusal.Driver DriverError.WouldBlock)) c.args.s.now log c.args.buf.now c.args.out.now c.error_end.ensures.0 c.error_end.ensures.1 c.requires (ending.take_none (world_in c.args.s.now c.args.buf.now) rec log c.args.out.now c.if-buf-ne2048.false (sym c.frame_at-rx.ensures ∙ c.in-None.is))

pub returns-in-Some : goal.returns-in-Some
returns-in-Some c = λ rec log. rw (ending.take-some (world_in c.args.s.now c.args.buf.now) rec log c.args.out.now c.if-buf-ne2048.false _ (sym c.frame_at-rx.ensures ∙ c.in-Some.is)) at (c.take_frame.ensures log)
