use Prim.Native.Nat.{ℕ}
use mathlib.Core.Path.{◌≡◌, refl}
use mathlib.Core.Bool.{false}
use mathlib.Core.List.{List, [], ◌∷◌}
use types.Run.{OneOf, miss}
use denote.Enum.Declared.{tag_of}
use Rattle.send.specs.Send as snd
use Rattle.ioctl.specs.declared.IoctlPoint.{IoctlPoint}
use Rattle.ioctl.specs.Ioctl.{ioctl_op, ioctl_answer, at_first, at_test, sending_step, sending_next}
use Rattle.poll_points.specs.declared.PollAt.{PollAt}
use Rattle.send_points.specs.SendPoints as send
use Rattle.reply_points.specs.declared.IoctlKind.{IoctlKind}
use Rattle.reply_points.specs.ReplyPoints.{point_by, stall_of}
use Rattle.reply_points.specs.contracts.IoctlKind.{the_type}
use Rattle.replying.proofs.Laws.{still, unlaid}
use Rattle.replying.proofs.ioctl_answer.Goals as goal
use Rattle.std.specs.Prelude.{None}

abbrev keys-stall : List ℕ
keys-stall = 0 ∷ 1 ∷ 2 ∷ 3 ∷ []

stalled : (k : IoctlKind) (q : PollAt) (t0 left n : ℕ) → OneOf keys-stall (tag_of the_type k) → point_by k q t0 left n ≡ IoctlPoint.Sending (send.point_by (stall_of k) q t0 left n)
unfolding point_by stall_of
stalled IoctlKind.StallFirst q t0 left n h = refl
stalled IoctlKind.StallPolling q t0 left n h = refl
stalled IoctlKind.StallLate q t0 left n h = refl
stalled IoctlKind.StallWaited q t0 left n h = refl
stalled IoctlKind.Ready q t0 left n h = absurd (miss keys-stall 4 tt h)
stalled IoctlKind.Writing q t0 left n h = absurd (miss keys-stall 5 tt h)
stalled IoctlKind.First q t0 left n h = absurd (miss keys-stall 6 tt h)
stalled IoctlKind.Test q t0 left n h = absurd (miss keys-stall 7 tt h)
stalled IoctlKind.Polling q t0 left n h = absurd (miss keys-stall 8 tt h)
stalled IoctlKind.Waited q t0 left n h = absurd (miss keys-stall 9 tt h)

pub returns-in-StallFirst : goal.returns-in-StallFirst
unfolding ioctl_answer ioctl_op
returns-in-StallFirst c = let p = c.args.p in rw (stalled p.kind p.at p.t0 p.left p.n c.in-StallFirst.in-StallFirst-own.keys1) (rw c.stalls.ensures at c.stall_answer.ensures)

pub returns-in-Ready : goal.returns-in-Ready
unfolding ioctl_answer snd.send_answer snd.at_ready point_by send.point_by
returns-in-Ready c = rw c.in-Ready.is (unlaid _ c.requires.kept c.requires.s_value (still c.requires.s_value (c.ready_read.ensures _ _)))

pub returns-in-Writing : goal.returns-in-Writing
unfolding ioctl_answer sending_step sending_next snd.send_answer snd.at_writing point_by send.point_by
returns-in-Writing c = rw c.in-Writing.is (unlaid _ c.requires.kept c.requires.s_value (c.sent.ensures false))

pub returns-in-First : goal.returns-in-First
unfolding ioctl_answer at_first point_by
returns-in-First c = rw c.in-First.is (unlaid _ c.requires.kept c.requires.s_value (still c.requires.s_value (rw (c.waits.ensures None))))

pub returns-in-Test : goal.returns-in-Test
unfolding ioctl_answer at_test point_by
returns-in-Test c = rw c.in-Test.is (unlaid _ c.requires.kept c.requires.s_value (still c.requires.s_value c.test_read.ensures))

pub returns-in-Polling : goal.returns-in-Polling
unfolding ioctl_answer ioctl_op point_by
returns-in-Polling c = rw c.in-Polling.is c.reply_poll.ensures

pub returns-in-Waited : goal.returns-in-Waited
unfolding ioctl_answer point_by
returns-in-Waited c = rw c.in-Waited.is (unlaid _ c.requires.kept c.requires.s_value (still c.requires.s_value (rw (c.waits-in-Waited.ensures None))))
