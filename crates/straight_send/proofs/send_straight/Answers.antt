use mathlib.Core.Path.{◌≡◌}
use Prim.Native.Nat.{◌+◌, ◌*◌, ◌/◌}
use native.Mathlib.Omega.{arith}
use lib.ListN.{length}
use Rattle.slices.specs.Le.{round4}
use Rattle.straight_send.proofs.Laws.{straight-ends}
use Rattle.straight_send.proofs.send_straight.Goals as goal

pub returns : goal.returns
returns c = let m : (21 + length c.args.frame.now) / 4 * 4 ≡ round4 (18 + length c.args.frame.now) = omega arith in record { on = λ rec h e. straight-ends c.args.frame.now c.args.s.now _ rec c.args.log.now _ c.args.buf.now _ _ h c.args.interface c.spend-seq.result _ e c.spend-seq.ensures.0 c.spend-seq.ensures.1 c.lay_packet.ensures (rw m at (c.log_both.ensures rec h.answered)); held = c.spend-seq.ensures.1.known }
