use Rattle.wlan.specs.declared.State.{State}
use Rattle.device.specs.Poll.{poll_op}
use Rattle.device.specs.Meaning.{arrival_at}
use Rattle.control.specs.Poll.{next_step, poll_point}
use Rattle.session_bytes.specs.Session.{session_in}
use Rattle.poll_points.specs.PollPoints.{point_of}
use Rattle.receive.specs.Receive.{polled_at}
use Rattle.receive.proofs.Laws.{polled-tells}
use Rattle.polls.proofs.Laws.{stepped-moved}
use Rattle.polls.proofs.poll_answer.Goals as goal
use Rattle.std.specs.Prelude.{Ok}

pub returns : goal.returns
unfolding poll_point
returns c = let b = c.args.buf.now in let t = (session_in c.args.s.now).st.sdpcm in let p = point_of c.args.p in let x = Ok c.args.v in let e = (arrival_at (poll_op p) b t).event in stepped-moved e (λ (s : State). next_step s e (polled_at t p x b).next) c.requires.kept c.requires.s_value c.poll_device-r.ensures.held (rw c.poll_device-r.ensures.next at (c.polled.ensures e (rw c.poll_device-r.ensures.next (polled-tells t p x b))))
