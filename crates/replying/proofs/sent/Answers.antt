use Rattle.wlan.specs.declared.State.{State}
use Rattle.ioctl.specs.Ioctl as to
use Rattle.reply_points.specs.ReplyPoints.{point_by}
use Rattle.replying.proofs.Laws.{still, follows-moved}
use Rattle.replying.proofs.sent.Goals as goal
use Rattle.std.specs.Prelude.{None}

pub returns-in-None : goal.returns-in-None
unfolding to.answered_by point_by
returns-in-None c = λ h. simp (← c.reply_at-resp.ensures, c.in-None.is) (still c.requires (rw (c.waits.ensures None)))

pub returns-in-Some : goal.returns-in-Some
unfolding to.answered_by
returns-in-Some c = let r = c.in-Some.p in λ h. simp (← c.reply_at-resp.ensures, c.in-Some.is) (follows-moved (λ (s : State). to.finish_step s h c.args.len r) c.put_reply.ensures (still c.put_reply.ensures.known (c.finish_stored.ensures _ h)))
