use mathlib.Core.Path.{◌∙◌}
use Prim.Native.Nat.{◌-◌}
use Rattle.definition.specs.Prog.{world}
use Rattle.ending.proofs.Takes as law
use Rattle.ending.proofs.take.take.Goals as goal

pub returns-then-buf-ne2048 : goal.returns-then-buf-ne2048
returns-then-buf-ne2048 c = λ rec log l. rw c.ended.ensures (law.take-13 (world c.args.st c.args.buf.now l) rec log c.args.out.now c.if-buf-ne2048.true)

pub returns-in-None : goal.returns-in-None
returns-in-None c = λ rec log l. rw c.driver_error.ensures (law.take_none (world c.args.st c.args.buf.now l) rec log c.args.out.now c.if-buf-ne2048.false c.in-None.is)

pub returns-in-Some : goal.returns-in-Some
returns-in-Some c = λ rec log l. c.take_frame.ensures log l ∙ law.take-some (world c.args.st c.args.buf.now l) rec log c.args.out.now c.if-buf-ne2048.false _ c.in-Some.is
