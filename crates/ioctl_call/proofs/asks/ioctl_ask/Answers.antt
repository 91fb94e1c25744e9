use Prim.Native.Nat.{ℕ}
use mathlib.Core.Path.{◌≡◌, refl}
use mathlib.Core.List.{List, [], ◌∷◌}
use types.Run.{OneOf, miss}
use denote.Enum.Declared.{tag_of}
use Rattle.wlan.specs.declared.BusOp.{BusOp}
use Rattle.device.specs.Poll.{poll_op}
use Rattle.send.specs.Send.{send_op, stall_op}
use Rattle.ioctl.specs.Ioctl.{ioctl_op}
use Rattle.poll_points.specs.declared.PollAt.{PollAt}
use Rattle.poll_points.specs.PollPoints as poll
use Rattle.send_points.specs.SendPoints as send
use Rattle.reply_points.specs.declared.IoctlKind.{IoctlKind}
use Rattle.reply_points.specs.ReplyPoints.{point_by}
use Rattle.reply_points.specs.contracts.IoctlKind.{the_type}
use Rattle.turning.proofs.Laws.{still_kept}
use Rattle.ioctl_call.proofs.asks.ioctl_ask.Goals as goal

abbrev keys-poll : List ℕ
keys-poll = 8 ∷ 1 ∷ []

polls : (k : IoctlKind) (q : PollAt) (t0 left n : ℕ) → OneOf keys-poll (tag_of the_type k) → poll_op (poll.point_of q) ≡ ioctl_op (point_by k q t0 left n)
unfolding ioctl_op send_op stall_op point_by send.point_by
polls IoctlKind.StallFirst q t0 left n h = absurd (miss keys-poll 0 tt h)
polls IoctlKind.StallPolling q t0 left n h = refl
polls IoctlKind.StallLate q t0 left n h = absurd (miss keys-poll 2 tt h)
polls IoctlKind.StallWaited q t0 left n h = absurd (miss keys-poll 3 tt h)
polls IoctlKind.Ready q t0 left n h = absurd (miss keys-poll 4 tt h)
polls IoctlKind.Writing q t0 left n h = absurd (miss keys-poll 5 tt h)
polls IoctlKind.First q t0 left n h = absurd (miss keys-poll 6 tt h)
polls IoctlKind.Test q t0 left n h = absurd (miss keys-poll 7 tt h)
polls IoctlKind.Polling q t0 left n h = refl
polls IoctlKind.Waited q t0 left n h = absurd (miss keys-poll 9 tt h)

abbrev keys-clock : List ℕ
keys-clock = 6 ∷ 7 ∷ 0 ∷ 2 ∷ []

clock : (k : IoctlKind) (q : PollAt) (t0 left n : ℕ) → OneOf keys-clock (tag_of the_type k) → BusOp.ReadClock ≡ ioctl_op (point_by k q t0 left n)
unfolding ioctl_op send_op stall_op point_by send.point_by
clock IoctlKind.StallFirst q t0 left n h = refl
clock IoctlKind.StallPolling q t0 left n h = absurd (miss keys-clock 1 tt h)
clock IoctlKind.StallLate q t0 left n h = refl
clock IoctlKind.StallWaited q t0 left n h = absurd (miss keys-clock 3 tt h)
clock IoctlKind.Ready q t0 left n h = absurd (miss keys-clock 4 tt h)
clock IoctlKind.Writing q t0 left n h = absurd (miss keys-clock 5 tt h)
clock IoctlKind.First q t0 left n h = refl
clock IoctlKind.Test q t0 left n h = refl
clock IoctlKind.Polling q t0 left n h = absurd (miss keys-clock 8 tt h)
clock IoctlKind.Waited q t0 left n h = absurd (miss keys-clock 9 tt h)

pub returns-in-Ready-clause-asks : goal.returns-in-Ready-clause-asks
unfolding ioctl_op point_by send_op send.point_by
returns-in-Ready-clause-asks c = simp c.in-Ready.is (c.ask_status.ensures c.args.buf.now)

pub returns-in-Writing-clause-asks : goal.returns-in-Writing-clause-asks
unfolding ioctl_op point_by send_op send.point_by
returns-in-Writing-clause-asks c = simp c.in-Writing.is c.ask_write.ensures

pub returns-in-Polling-clause-asks : goal.returns-in-Polling-clause-asks
returns-in-Polling-clause-asks c = rw (← polls c.args.p.kind c.args.p.at c.args.p.t0 c.args.p.left c.args.p.n c.in-Polling.in-Polling-own.keys3) c.device_ask.ensures.asks

pub returns-in-Waited-clause-asks : goal.returns-in-Waited-clause-asks
unfolding ioctl_op point_by
returns-in-Waited-clause-asks c = simp c.in-Waited.is (c.ask_wait.ensures c.args.rec.now c.args.buf.now)

pub returns-in-StallWaited-clause-asks : goal.returns-in-StallWaited-clause-asks
unfolding ioctl_op point_by send_op stall_op send.point_by
returns-in-StallWaited-clause-asks c = simp c.in-StallWaited.is (c.ask_wait-in-StallWaited.ensures c.args.rec.now c.args.buf.now)

pub returns-in-First-clause-asks : goal.returns-in-First-clause-asks
returns-in-First-clause-asks c = rw (← clock c.args.p.kind c.args.p.at c.args.p.t0 c.args.p.left c.args.p.n c.in-First.in-First-own.keys6) (c.ask_clock.ensures c.args.buf.now)
