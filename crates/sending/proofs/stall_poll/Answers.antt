use Rattle.wlan.specs.declared.State.{State}
use Rattle.device.specs.Poll.{poll_op}
use Rattle.device.specs.Meaning.{arrival_at}
use Rattle.send.specs.Send.{stall_next, stall_poll}
use Rattle.session_bytes.specs.Session.{session_in}
use Rattle.poll_points.specs.PollPoints.{point_of}
use Rattle.receive.specs.Receive.{polled_at}
use Rattle.receive.proofs.Laws.{polled-tells}
use Rattle.sending.proofs.Laws.{moved}
use Rattle.sending.proofs.stall_poll.Goals as goal
use Rattle.std.specs.Prelude.{Ok}

pub returns : goal.returns
unfolding stall_poll
returns c = let b = c.args.buf.now in let t = (session_in c.args.s.now).st.sdpcm in let p = point_of c.args.q in let x = Ok c.args.v in let e = (arrival_at (poll_op p) b t).event in moved e (λ (s : State). stall_next s c.args.out c.args.t0 e (polled_at t p x b).next) c.requires.kept c.requires.s_value c.poll_device-r.ensures.held (rw c.poll_device-r.ensures.next at (c.stall_next.ensures e (rw c.poll_device-r.ensures.next (polled-tells t p x b))))
