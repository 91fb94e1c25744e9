-- The tree that each point of `do_ioctl` stands for, and what a step lays.
use Rattle.std.specs.Prelude.{ℕ, Bool, true, false, take, drop}
use Rattle.slices.specs.Over.{over}
use Rattle.wlan.specs.declared.AsyncEvent.{AsyncEvent}
use Rattle.definition.specs.Bus.{Bytes, Place, Ans}
use Rattle.definition.specs.Prog.{World, world, with_buf, Loop, Prog, ret, stop, loop, M, bind, attempt, turned, valued}
use Rattle.definition.specs.Ioctl.{finished, reply_turn, in_time, awaited, reply}
use Rattle.handling.specs.Handle.{list_heard}
use Rattle.device.specs.Meaning.{op_in, asking, told, landing, arrival_at, Kp}
use Rattle.send.specs.Meaning.{laid_header, past, Ks}
use Rattle.ioctl.specs.declared.IoctlPoint.{IoctlPoint}
use Rattle.ioctl.specs.declared.Copied.{Copied}
use Rattle.ioctl.specs.declared.IoctlNext.{IoctlNext}
use Rattle.ioctl.specs.declared.IoctlStep.{IoctlStep}
use Rattle.ioctl.specs.Ioctl.{out_of, ioctl_op, ioctl_answer}

-- the copied part of a reply
unfoldable pub laid_copy : Copied → Bytes → Bytes
laid_copy c b = over b 28 (take c.count (drop c.offset b))

-- what is left after the write
abbrev pub after_sent : ℕ → Unit {0} → M (Unit {0})
after_sent len u w = bind (reply w.st.pending.ioctl_resp w) (finished len)

-- the tree that is left at a point, by the answer to its operation; len: the payload's length
unfoldable pub Ki : ℕ → Place → IoctlPoint → Ans → M (Unit {0})
Ki len secret (IoctlPoint.Sending q) x w = bind (Ks (out_of len) secret q x w) (after_sent len)
Ki len secret IoctlPoint.First x w = bind (bind (valued x w) awaited) (finished len)
Ki len secret (IoctlPoint.Test t0) x w = bind (attempt (bind (valued x w) (in_time t0))) (turned (Loop.reply_loop t0) (past (finished len)))
Ki len secret (IoctlPoint.Polling t0 q) x w = bind (attempt (bind (Kp q x w) reply_turn)) (turned (Loop.reply_loop t0) (past (finished len)))
Ki len secret (IoctlPoint.Waited t0) x w = loop (Loop.reply_loop t0) w (past (finished len))

-- the next step, as a tree
unfoldable pub ioctl_tree : ℕ → Place → IoctlNext → World → Prog (Unit {0})
ioctl_tree len secret (IoctlNext.Ask h p) w =
    asking (op_in (ioctl_op p) secret (laid_header h w.buf)) (λ x. Ki len secret p x (with_buf w (laid_header h w.buf)))
ioctl_tree len secret (IoctlNext.Done c) w = ret tt (with_buf w (laid_copy c w.buf))
ioctl_tree len secret (IoctlNext.Refused h e) w = stop e (with_buf w (laid_header h w.buf))

-- e: the event that came
abbrev pub ioctl_shown : ℕ → Place → IoctlStep → AsyncEvent → World → Prog (Unit {0})
ioctl_shown len secret s e w = ioctl_tree len secret s.next (world s.st w.buf (list_heard s.heard e w.list))

abbrev pub event_at : IoctlPoint → Ans → World → AsyncEvent
event_at p x w = (arrival_at (ioctl_op p) (landing (ioctl_op p) x w.buf) w.st.sdpcm).event

abbrev pub ioctl_step_at : ℕ → IoctlPoint → Ans → World → IoctlStep
ioctl_step_at len p x w = ioctl_answer w.st len p (told x) (arrival_at (ioctl_op p) (landing (ioctl_op p) x w.buf) w.st.sdpcm)
