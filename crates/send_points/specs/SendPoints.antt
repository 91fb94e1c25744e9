-- The code's flat values in the mirror's terms.
use Rattle.std.specs.Prelude.{ℕ, false, Option, None}
use Rattle.wlan.specs.declared.State.{State}
use Rattle.send.specs.declared.SendNext.{SendNext}
use Rattle.send.specs.declared.SendPoint.{SendPoint}
use Rattle.send.specs.declared.SendStep.{SendStep}
use Rattle.send.specs.declared.StallPoint.{StallPoint}
use Rattle.send.specs.Send.{step}
use Rattle.poll_points.specs.declared.PollAt.{PollAt}
use Rattle.poll_points.specs.declared.PollKind.{PollKind}
use Rattle.poll_points.specs.PollPoints as poll
use Rattle.send_points.specs.declared.SendAt.{SendAt}
use Rattle.send_points.specs.declared.SendKind.{SendKind}
use Rattle.send_points.specs.declared.SendNow.{SendNow}
use Rattle.send_points.specs.declared.SentKind.{SentKind}
use Rattle.send.specs.declared.Header.{Header}

unfoldable pub point_by : SendKind → PollAt → ℕ → ℕ → ℕ → SendPoint
point_by SendKind.First q t0 left n = SendPoint.Stall StallPoint.First
point_by SendKind.Polling q t0 left n = SendPoint.Stall (StallPoint.Polling t0 (poll.point_of q))
point_by SendKind.Late q t0 left n = SendPoint.Stall (StallPoint.Late t0)
point_by SendKind.Waited q t0 left n = SendPoint.Stall (StallPoint.Waited t0)
point_by SendKind.Ready q t0 left n = SendPoint.Ready left n
point_by SendKind.Writing q t0 left n = SendPoint.Writing n

abbrev pub point_of : SendAt → SendPoint
point_of p = point_by p.kind p.at p.t0 p.left p.n

-- where no poll is
abbrev pub unpolled : PollAt
unpolled = record { kind = PollKind.Interrupt; n = 0 }

-- the header that a step lays
unfoldable pub header_in : SendNext → Option Header
header_in (SendNext.Ask h p) = h
header_in SendNext.Sent = None
header_in (SendNext.Refused h e) = h

unfoldable pub next_by : SentKind → SendNow → Option Header → SendNext
next_by SentKind.Ask r h = SendNext.Ask h (point_of r.at)
next_by SentKind.Sent r h = SendNext.Sent
next_by SentKind.Refused r h = SendNext.Refused h r.error

abbrev pub next_of : SendNow → Option Header → SendNext
next_of r h = next_by r.kind r h

-- a step that lays nothing, hears nothing and leaves the state
abbrev pub stays : State → SendNow → SendStep
stays s r = step s false (next_of r None)
