-- What the code of `do_ioctl` computes, function by function. A means of proof: `Meaning` says what its points stand for.
use Rattle.std.specs.Prelude.{ℕ, ◌+◌, ◌%◌, Bool, true, false, ltb, Option, Some, None, Ok, Err}
use Rattle.slices.specs.Pick.{pick}
use Rattle.wlan.specs.State.{with_sdpcm, with_pending, set_id, set_reply}
use Rattle.wlan.specs.declared.BusOp.{BusOp}
use Rattle.wlan.specs.declared.DriverError.{DriverError}
use Rattle.wlan.specs.declared.PendingIoctlResp.{PendingIoctlResp}
use Rattle.wlan.specs.declared.AsyncEvent.{AsyncEvent}
use Rattle.wlan.specs.declared.SdpcmPacket.{SdpcmPacket}
use Rattle.wlan.specs.declared.State.{State}
use Rattle.definition.specs.Send.{elapsed, response_of}
use Rattle.definition.specs.Ioctl.{is_zero}
use Rattle.handling.specs.Handle.{handled_of}
use Rattle.device.specs.declared.Arrival.{Arrival}
use Rattle.device.specs.declared.PollNext.{PollNext}
use Rattle.device.specs.declared.PollPoint.{PollPoint}
use Rattle.device.specs.Poll.{poll_op, poll_start, poll_answer}
use Rattle.send.specs.declared.OutPacket.{OutPacket}
use Rattle.send.specs.declared.SendNext.{SendNext}
use Rattle.send.specs.declared.SendStep.{SendStep}
use Rattle.send.specs.Send as send
use Rattle.ioctl.specs.declared.IoctlPoint.{IoctlPoint}
use Rattle.ioctl.specs.declared.Copied.{Copied}
use Rattle.ioctl.specs.declared.IoctlNext.{IoctlNext}
use Rattle.ioctl.specs.declared.IoctlStep.{IoctlStep}
use Rattle.wlan.specs.Results.{BusAnswer}

unfoldable pub ioctl_op : IoctlPoint → BusOp
ioctl_op (IoctlPoint.Sending q) = send.send_op q
ioctl_op IoctlPoint.First = BusOp.ReadClock
ioctl_op (IoctlPoint.Test t0) = BusOp.ReadClock
ioctl_op (IoctlPoint.Polling t0 q) = poll_op q
ioctl_op (IoctlPoint.Waited t0) = BusOp.Wait 10000

abbrev pub step : State → Bool → IoctlNext → IoctlStep
step s h n = record { st = s; heard = h; next = n }

abbrev pub asks : State → Bool → IoctlPoint → IoctlStep
asks s h p = step s h (IoctlNext.Ask None p)

abbrev pub refuses : State → Bool → DriverError → IoctlStep
refuses s h e = step s h (IoctlNext.Refused None e)

unfoldable pub shorter : ℕ → ℕ → ℕ
shorter a b = pick (ltb a b) a b

unfoldable pub out_of : ℕ → OutPacket
out_of len = record { channel = 0; size = (len + 28) % 65536 }

unfoldable pub finish_step : State → Bool → ℕ → PendingIoctlResp → IoctlStep
finish_step s h len r =
    pick (is_zero r.status)
    (pick (ltb 2048 (r.buf.offset + shorter len r.buf.len)) (refuses s h DriverError.PastBuffer)
    (step s h (IoctlNext.Done (record { offset = r.buf.offset; count = shorter len r.buf.len }))))
    (refuses s h DriverError.Io)

unfoldable pub answered_by : State → Bool → ℕ → Option PendingIoctlResp → IoctlStep
answered_by s h len None = asks s h IoctlPoint.First
answered_by s h len (Some r) = finish_step (with_pending s (set_reply s.pending None)) h len r

abbrev pub sent_step : State → Bool → ℕ → IoctlStep
sent_step s h len = answered_by s h len s.pending.ioctl_resp

unfoldable pub sending_next : State → Bool → ℕ → SendNext → IoctlStep
sending_next s h len (SendNext.Ask p q) = step s h (IoctlNext.Ask p (IoctlPoint.Sending q))
sending_next s h len SendNext.Sent = sent_step s h len
sending_next s h len (SendNext.Refused p e) = step s h (IoctlNext.Refused p e)

unfoldable pub sending_step : SendStep → ℕ → IoctlStep
sending_step x len = sending_next x.st x.heard len x.next

-- the id is spent
abbrev pub numbering : State → State
numbering s = with_sdpcm s (set_id s.sdpcm ((s.sdpcm.requested_ioctl_id + 1) % 256))

unfoldable pub start_step : State → ℕ → IoctlStep
start_step s len = sending_step (send.start_step (numbering s) (out_of len)) len

unfoldable pub packet_step : State → ℕ → ℕ → AsyncEvent → SdpcmPacket → IoctlStep
packet_step s len t0 e SdpcmPacket.None = asks s false (IoctlPoint.Waited t0)
packet_step s len t0 e (SdpcmPacket.Control offset n status) = finish_step s false len (response_of offset n status)
packet_step s len t0 e (SdpcmPacket.AsyncEvent offset n) = asks (handled_of s n e).st (handled_of s n e).heard (IoctlPoint.Waited t0)
packet_step s len t0 e (SdpcmPacket.Data offset n interface) = asks s false (IoctlPoint.Waited t0)

unfoldable pub reply_next : State → ℕ → ℕ → AsyncEvent → PollNext → IoctlStep
reply_next s len t0 e (PollNext.Ask q) = asks s false (IoctlPoint.Polling t0 q)
reply_next s len t0 e (PollNext.Got p) = packet_step s len t0 e p
reply_next s len t0 e (PollNext.Refused x) = refuses s false x

unfoldable pub reply_poll : State → ℕ → ℕ → PollPoint → BusAnswer → Arrival → IoctlStep
reply_poll s len t0 q x a =
    reply_next (with_sdpcm s (poll_answer s.sdpcm q x a).sdpcm) len t0 a.event (poll_answer s.sdpcm q x a).next

unfoldable pub test_step : State → ℕ → ℕ → IoctlStep
test_step s t0 t = pick (ltb (elapsed t0 t) 500000) (asks s false (IoctlPoint.Polling t0 (poll_start s.sdpcm))) (refuses s false DriverError.Timeout)

unfoldable pub at_first : State → BusAnswer → IoctlStep
at_first s (Ok t) = asks s false (IoctlPoint.Test t)
at_first s (Err f) = refuses s false (DriverError.Fault f.place)

unfoldable pub at_test : State → ℕ → BusAnswer → IoctlStep
at_test s t0 (Ok t) = test_step s t0 t
at_test s t0 (Err f) = refuses s false (DriverError.Fault f.place)

unfoldable pub ioctl_answer : State → ℕ → IoctlPoint → BusAnswer → Arrival → IoctlStep
ioctl_answer s len (IoctlPoint.Sending q) x a = sending_step (send.send_answer s (out_of len) q x a) len
ioctl_answer s len IoctlPoint.First x a = at_first s x
ioctl_answer s len (IoctlPoint.Test t0) x a = at_test s t0 x
ioctl_answer s len (IoctlPoint.Polling t0 q) x a = reply_poll s len t0 q x a
ioctl_answer s len (IoctlPoint.Waited t0) x a = asks s false (IoctlPoint.Test t0)
