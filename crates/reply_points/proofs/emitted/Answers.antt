use mathlib.Core.Path.{◌≡◌}
use Prim.Native.Nat.{◌+◌, ◌*◌, ◌/◌, ◌<◌, ◌≤◌}
use native.Mathlib.Omega.{arith}
use borrow.Author.Tests.{lt-ltb, le-ltb}
use Rattle.slices.specs.Le.{round4}
use Rattle.send.specs.Send.{emit_step, put_of}
use Rattle.ioctl.specs.Ioctl.{sending_step, sending_next}
use Rattle.send_points.specs.SendPoints as send
use Rattle.reply_points.specs.ReplyPoints.{point_by, header_in}
use Rattle.reply_points.proofs.emitted.Goals as goal

pub returns-then-size-gt2040 : goal.returns-then-size-gt2040
unfolding sending_step sending_next emit_step header_in
returns-then-size-gt2040 c = let e : 2040 < round4 c.args.out.size = omega arith in record { next = λ s h len. simp (lt-ltb _ _ e, c.refuse.ensures (put_of s c.args.out)); laid = λ h. rw (c.refuse.ensures h) }

pub returns : goal.returns
unfolding sending_step sending_next emit_step point_by header_in send.point_by
returns c = let e : round4 c.args.out.size ≤ 2040 = omega arith in let m : (c.args.out.size + 3) / 4 * 4 ≡ round4 c.args.out.size = omega arith in record { next = λ s h len. simp (le-ltb _ _ e, ← m, c.waits.ensures (put_of s c.args.out)); laid = λ h. rw (c.waits.ensures h) }
