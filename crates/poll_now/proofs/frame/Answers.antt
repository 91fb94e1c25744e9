use mathlib.Core.Path.{refl}
use mathlib.Core.Bool.{false}
use Prim.Native.Nat.{◌<◌, ◌≤◌}
use native.Mathlib.Omega.{arith}
use borrow.Author.Tests.{lt-ltb, le-ltb}
use Rattle.wlan.specs.declared.WlanPollResult.{WlanPollResult}
use Rattle.control.specs.Poll.{frame_step}
use Rattle.poll_report.proofs.Laws.{polled-gives, changed}
use Rattle.poll_now.proofs.Laws.{ended}
use Rattle.poll_now.proofs.frame.Goals as goal

pub returns-then-len-lt14 : goal.returns-then-len-lt14
unfolding frame_step
returns-then-len-lt14 c = let e : c.args.len < 14 = omega arith in simp (lt-ltb _ _ e) (c.polling.ensures false)

pub returns : goal.returns
unfolding frame_step
returns c = let e : 14 ≤ c.args.len = omega arith in simp (le-ltb _ _ e) (changed c.put_frame.ensures (ended _ _ c.over.ensures.0 c.over.ensures.1 (rw c.unfailed.ensures (polled-gives WlanPollResult.Rx))) refl)
