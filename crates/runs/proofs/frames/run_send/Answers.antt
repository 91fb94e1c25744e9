use native.Mathlib.Omega.{arith}
use Rattle.turning.specs.Turning.{world_in}
use Rattle.runs.proofs.Laws.{send-called, left}
use Rattle.runs.proofs.frames.run_send.Goals as goal

pub returns-then-is_straight : goal.returns-then-is_straight
returns-then-is_straight c = let k = c.is_straight.ensures c.if-is_straight.true in let h = rw (send-called c.args.interface c.args.frame.now c.args.s.now c.args.rec.now c.args.log.now c.args.buf.now k.0 (omega (arith, k.1.most)) c.told-buf) at (c.send_straight-len.ensures.on c.args.rec.now k.1 (world_in c.args.s.now c.args.buf.now)) in rw c.done_end.ensures (left h (c.send_straight-len.ensures.held, h.left))
