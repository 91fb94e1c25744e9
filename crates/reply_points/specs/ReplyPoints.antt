-- The code's flat values in the mirror's terms.
use Rattle.std.specs.Prelude.{ℕ, Bool, Option, None}
use Rattle.wlan.specs.declared.State.{State}
use Rattle.ioctl.specs.declared.Copied.{Copied}
use Rattle.ioctl.specs.declared.IoctlNext.{IoctlNext}
use Rattle.ioctl.specs.declared.IoctlPoint.{IoctlPoint}
use Rattle.ioctl.specs.declared.IoctlStep.{IoctlStep}
use Rattle.ioctl.specs.Ioctl.{step}
use Rattle.poll_points.specs.declared.PollAt.{PollAt}
use Rattle.poll_points.specs.PollPoints as poll
use Rattle.send_points.specs.declared.SendKind.{SendKind}
use Rattle.send_points.specs.SendPoints as send
use Rattle.reply_points.specs.declared.IoctlAt.{IoctlAt}
use Rattle.reply_points.specs.declared.IoctlKind.{IoctlKind}
use Rattle.reply_points.specs.declared.IoctlNow.{IoctlNow}
use Rattle.reply_points.specs.declared.IoctlNowKind.{IoctlNowKind}
use Rattle.send.specs.declared.Header.{Header}

unfoldable pub point_by : IoctlKind → PollAt → ℕ → ℕ → ℕ → IoctlPoint
point_by IoctlKind.StallFirst q t0 left n = IoctlPoint.Sending (send.point_by SendKind.First q t0 left n)
point_by IoctlKind.StallPolling q t0 left n = IoctlPoint.Sending (send.point_by SendKind.Polling q t0 left n)
point_by IoctlKind.StallLate q t0 left n = IoctlPoint.Sending (send.point_by SendKind.Late q t0 left n)
point_by IoctlKind.StallWaited q t0 left n = IoctlPoint.Sending (send.point_by SendKind.Waited q t0 left n)
point_by IoctlKind.Ready q t0 left n = IoctlPoint.Sending (send.point_by SendKind.Ready q t0 left n)
point_by IoctlKind.Writing q t0 left n = IoctlPoint.Sending (send.point_by SendKind.Writing q t0 left n)
point_by IoctlKind.First q t0 left n = IoctlPoint.First
point_by IoctlKind.Test q t0 left n = IoctlPoint.Test t0
point_by IoctlKind.Polling q t0 left n = IoctlPoint.Polling t0 (poll.point_of q)
point_by IoctlKind.Waited q t0 left n = IoctlPoint.Waited t0

abbrev pub point_of : IoctlAt → IoctlPoint
point_of p = point_by p.kind p.at p.t0 p.left p.n

-- a stall's kind, as the send has it
unfoldable pub stall_of : IoctlKind → SendKind
stall_of IoctlKind.StallFirst = SendKind.First
stall_of IoctlKind.StallPolling = SendKind.Polling
stall_of IoctlKind.StallLate = SendKind.Late
stall_of IoctlKind.StallWaited = SendKind.Waited
stall_of IoctlKind.Ready = SendKind.Waited
stall_of IoctlKind.Writing = SendKind.Waited
stall_of IoctlKind.First = SendKind.Waited
stall_of IoctlKind.Test = SendKind.Waited
stall_of IoctlKind.Polling = SendKind.Waited
stall_of IoctlKind.Waited = SendKind.Waited

abbrev pub copied : ℕ → ℕ → Copied
copied offset n = record { offset = offset; count = n }

-- the header that a step lays
unfoldable pub header_in : IoctlNext → Option Header
header_in (IoctlNext.Ask h p) = h
header_in (IoctlNext.Done c) = None
header_in (IoctlNext.Refused h e) = h

unfoldable pub next_by : IoctlNowKind → IoctlNow → Option Header → IoctlNext
next_by IoctlNowKind.Ask r h = IoctlNext.Ask h (point_of r.at)
next_by IoctlNowKind.Done r h = IoctlNext.Done (copied r.offset r.count)
next_by IoctlNowKind.Refused r h = IoctlNext.Refused h r.error

abbrev pub next_of : IoctlNow → Option Header → IoctlNext
next_of r h = next_by r.kind r h

-- a step that lays nothing and leaves the state
abbrev pub stays : State → Bool → IoctlNow → IoctlStep
stays s h r = step s h (next_of r None)
