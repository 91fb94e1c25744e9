-- The tree that each point of a send stands for, and what a step lays.
use Rattle.std.specs.Prelude.{ℕ, Bool, true, false, List, [], take, ◌==◌, bit_and, Option, None, Some}
use Rattle.slices.specs.Pick.{pick}
use Rattle.slices.specs.Over.{over}
use Rattle.wlan.specs.declared.AsyncEvent.{AsyncEvent}
use Rattle.definition.specs.Bus.{Bytes, Place, Op, Ans}
use Rattle.definition.specs.Prog.{World, world, with_buf, Note, Fin, Turn, again, Loop, Prog, ret, stop, loop, note, M, bind, ◌>>=◌, attempt, raise, turned, valued, operate}
use Rattle.definition.specs.Packet.{header}
use Rattle.definition.specs.Send.{still_stalled, stall_turn, stalled, headed, emitted, until_ready}
use Rattle.handling.specs.Handle.{list_heard}
use Rattle.device.specs.Meaning.{op_in, asking, told, landing, arrival_at, Kp}
use Rattle.send.specs.declared.OutPacket.{OutPacket}
use Rattle.send.specs.declared.StallPoint.{StallPoint}
use Rattle.send.specs.declared.SendPoint.{SendPoint}
use Rattle.send.specs.declared.SendNext.{SendNext}
use Rattle.send.specs.declared.SendStep.{SendStep}
use Rattle.send.specs.Send.{send_op, send_answer}
use Rattle.send.specs.declared.Header.{Header}

-- what a header put does to the work buffer
unfoldable pub laid_header : Option Header → Bytes → Bytes
laid_header None b = b
laid_header (Some h) b = over b 0 (header h.size h.seq h.channel)

-- what follows an ended part, told apart from what follows a refused one
abbrev pub past : {A B : Type 0} → (A → World → Prog B) → Fin A → World → Prog B
past f = λ r v. bind (raise r v) f

-- what is left after the stall
abbrev pub after_free : OutPacket → Place → Unit {0} → M (Unit {0})
after_free o secret u w = note Note.spent (emitted o.size secret (headed o.channel o.size w))

abbrev pub writing : ℕ → Place → M (Unit {0})
writing n secret w = (operate (Op.write_packet (take n w.buf) secret) >>= λ m v. ret tt v) w

unfoldable pub Kstall : OutPacket → Place → StallPoint → Ans → M (Unit {0})
Kstall o secret StallPoint.First x w = bind (bind (valued x w) stalled) (after_free o secret)
Kstall o secret (StallPoint.Polling t0 q) x w = bind (attempt (bind (Kp q x w) (stall_turn t0))) (turned (Loop.stall_loop t0) (past (after_free o secret)))
Kstall o secret (StallPoint.Late t0) x w = bind (attempt (bind (valued x w) (still_stalled t0))) (turned (Loop.stall_loop t0) (past (after_free o secret)))
Kstall o secret (StallPoint.Waited t0) x w = loop (Loop.stall_loop t0) w (past (after_free o secret))

-- the tree that is left at a point, by the answer to its operation
unfoldable pub Ks : OutPacket → Place → SendPoint → Ans → M (Unit {0})
Ks o secret (SendPoint.Stall p) x w = Kstall o secret p x w
Ks o secret (SendPoint.Ready left n) x w =
    bind {A = Unit {0}} (bind (valued x w) (λ s v. pick (bit_and s 0x20 == 0) (until_ready left v) (ret tt v))) (λ u. writing n secret)
Ks o secret (SendPoint.Writing n) x w = bind (valued x w) (λ m v. ret tt v)

-- a send's next step, as a tree
unfoldable pub send_tree : OutPacket → Place → SendNext → World → Prog (Unit {0})
send_tree o secret (SendNext.Ask h p) w =
    asking (op_in (send_op p) secret (laid_header h w.buf)) (λ x. Ks o secret p x (with_buf w (laid_header h w.buf)))
send_tree o secret SendNext.Sent w = ret tt w
send_tree o secret (SendNext.Refused h e) w = stop e (with_buf w (laid_header h w.buf))

-- e: the event that came
abbrev pub send_shown : OutPacket → Place → SendStep → AsyncEvent → World → Prog (Unit {0})
send_shown o secret s e w = send_tree o secret s.next (world s.st w.buf (list_heard s.heard e w.list))

abbrev pub event_at : SendPoint → Ans → World → AsyncEvent
event_at p x w = (arrival_at (send_op p) (landing (send_op p) x w.buf) w.st.sdpcm).event

abbrev pub send_step_at : OutPacket → SendPoint → Ans → World → SendStep
send_step_at o p x w = send_answer w.st o p (told x) (arrival_at (send_op p) (landing (send_op p) x w.buf) w.st.sdpcm)
