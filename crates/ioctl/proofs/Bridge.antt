-- A step of `do_ioctl` is the tree's: at every point, for every answer, in every world.
use mathlib.Core.Path.{◌≡◌, refl, sym, ap, ◌∙◌}
use mathlib.Core.Bool.{Bool, true, false}
use Prim.Native.Nat.{ℕ, ◌+◌, ◌%◌, ◌≤◌, ◌<◌, min}
use native.Mathlib.Omega.{arith}
use borrow.Author.Tests.{ltb-true, ltb-false}
use lib.Dec.{ltb}
use lib.ListN.{length, take, drop}
use Rattle.slices.specs.Pick.{pick}
use Rattle.slices.specs.Over.{over}
use Rattle.wlan.specs.State.{with_sdpcm, with_pending, set_reply}
use Rattle.wlan.specs.declared.DriverError.{DriverError}
use Rattle.wlan.specs.declared.PendingIoctlResp.{PendingIoctlResp}
use Rattle.wlan.specs.declared.AsyncEvent.{AsyncEvent}
use Rattle.wlan.specs.declared.SdpcmPacket.{SdpcmPacket}
use Rattle.wlan.specs.declared.State.{State}
use Rattle.definition.specs.Bus.{Bytes, Op, Ans, fault, val, Place}
use Rattle.definition.specs.Prog.{World, world, with_state, with_buf, Fin, Turn, again, out, Loop, Prog, ret, stop, ask, say, loop, bind, attempt, raise, turned, valued, operate}
use Rattle.definition.specs.Event.{handled}
use Rattle.definition.specs.Request.{Request, ioctl_header}
use Rattle.definition.specs.Device.{poll_by, poll_device, had_packet, status_read, status_reads, interrupt_read}
use Rattle.definition.specs.Send.{elapsed, clock, response_of, send_common, until_free}
use Rattle.definition.specs.Ioctl.{numbered, next_id, is_zero, finished, reply_turn, in_time, awaited, reply, do_ioctl}
use Rattle.definition.specs.Poll.{body}
use Rattle.definition.proofs.Compose.{unroll, bind_assoc, followed, lifted}
use Rattle.handling.specs.Handle.{handled_of, list_heard}
use Rattle.device.specs.declared.PollPoint.{PollPoint}
use Rattle.device.specs.declared.PollNext.{PollNext}
use Rattle.device.specs.Poll.{poll_op, poll_start}
use Rattle.device.specs.Meaning.{secretly, op_in, asking, told, landing, InRange, arrival_at, Kp, poll_tree, landed_world, poll_step_at, Tells}
use Rattle.device.proofs.Asking.{asking-bind, unroll-asking}
use Rattle.device.proofs.Bridge.{poll-is, poll-tells}
use Rattle.send.specs.declared.OutPacket.{OutPacket}
use Rattle.send.specs.declared.SendNext.{SendNext}
use Rattle.send.specs.declared.SendPoint.{SendPoint}
use Rattle.send.specs.declared.StallPoint.{StallPoint}
use Rattle.send.specs.Send as send
use Rattle.send.specs.Meaning.{laid_header, past, after_free, Ks, send_tree, send_step_at}
use Rattle.send.proofs.Bridge.{handled-is, send-is}
use Rattle.send.proofs.Bridge as sent
use Rattle.ioctl.specs.declared.IoctlPoint.{IoctlPoint}
use Rattle.ioctl.specs.declared.Copied.{Copied}
use Rattle.ioctl.specs.declared.IoctlNext.{IoctlNext}
use Rattle.ioctl.specs.declared.IoctlStep.{IoctlStep}
use Rattle.ioctl.specs.Ioctl.{ioctl_op, step, asks, refuses, shorter, out_of, finish_step, answered_by, sent_step, sending_next, sending_step, numbering, start_step, packet_step, reply_next, reply_poll, test_step, at_first, at_test, ioctl_answer}
use Rattle.ioctl.specs.Meaning.{laid_copy, after_sent, Ki, ioctl_tree, ioctl_shown, event_at, ioctl_step_at}
use Rattle.std.specs.Prelude.{Option, Some, None}

pub shorter-is : (a b : ℕ) → shorter a b ≡ min a b
unfolding shorter
shorter-is a b = go (ltb a b) (λ e. ltb-true a b e) (λ e. ltb-false a b e)
  where
    go : (t : Bool) → (t ≡ true → a < b) → (t ≡ false → b ≤ a) → pick t a b ≡ min a b
    go true f g = let h = f refl in omega arith
    go false f g = let h = g refl in omega arith

module _ (len : ℕ) (secret : Place) where
  -- a reply came
  finish-is : (r : PendingIoctlResp) (h : Bool) (e : AsyncEvent) (s : State) (w : World) → unroll (finished len r (world s w.buf (list_heard h e w.list))) ≡ ioctl_shown len secret (finish_step s h len r) e w
  unfolding unroll finished finish_step ioctl_tree laid_header laid_copy
  finish-is r h e s w = rw (shorter-is len r.buf.len) (by (is_zero r.status) (ltb 2048 (r.buf.offset + min len r.buf.len)))
    where
      n : ℕ
      n = min len r.buf.len

      v : World
      v = world s w.buf (list_heard h e w.list)

      by : (b c : Bool) → unroll (pick b (pick c (stop DriverError.PastBuffer v) (ret tt (with_buf v (over v.buf 28 (take n (drop r.buf.offset v.buf)))))) (stop DriverError.Io v)) ≡ ioctl_shown len secret (pick b (pick c (refuses s h DriverError.PastBuffer) (step s h (IoctlNext.Done (record { offset = r.buf.offset; count = n })))) (refuses s h DriverError.Io)) e w
      by true true = refl
      by true false = refl
      by false c = refl

  -- the request is written
  sent_is : (h : Bool) (e : AsyncEvent) (s : State) (w : World) → unroll (after_sent len tt (world s w.buf (list_heard h e w.list))) ≡ ioctl_shown len secret (sent_step s h len) e w
  unfolding unroll bind reply operate answered_by ioctl_tree laid_header ioctl_op secretly asking Ki
  sent_is h e s w = by s.pending.ioctl_resp
    where
      v : World
      v = world s w.buf (list_heard h e w.list)

      by : (r : Option PendingIoctlResp) → unroll (bind (reply r v) (finished len)) ≡ ioctl_shown len secret (answered_by s h len r) e w
      by None = refl
      by (Some r) = finish-is r h e (with_pending s (set_reply s.pending None)) w

  -- by what the send does next
  sending-is : (n : SendNext) (h : Bool) (e : AsyncEvent) (s : State) (w : World) → unroll (bind (send_tree (out_of len) secret n (world s w.buf (list_heard h e w.list))) (after_sent len)) ≡ ioctl_shown len secret (sending_next s h len n) e w
  unfolding unroll bind send_tree sending_next ioctl_tree ioctl_op Ki
  sending-is (SendNext.Ask p q) h e s w =
      let v : World = world s w.buf (list_heard h e w.list) in
      let op = op_in (send.send_op q) secret (laid_header p v.buf) in
      let k : Ans → Prog (Unit {0}) = λ x. Ks (out_of len) secret q x (with_buf v (laid_header p v.buf)) in
      ap unroll (asking-bind op k (after_sent len)) ∙ unroll-asking op (λ x. bind (k x) (after_sent len))
  sending-is SendNext.Sent h e s w = sent_is h e s w
  sending-is (SendNext.Refused p x) h e s w = refl

  -- a poll of the reply wait begins
  polling-is : (t0 : ℕ) (e : AsyncEvent) (w : World) → unroll (bind (attempt (bind (poll_device w) reply_turn)) (turned (Loop.reply_loop t0) (past (finished len)))) ≡ ioctl_shown len secret (asks w.st false (IoctlPoint.Polling t0 (poll_start w.st.sdpcm))) e w
  unfolding unroll bind attempt poll_device poll_by poll_start ioctl_tree laid_header ioctl_op poll_op secretly asking Ki Kp list_heard
  polling-is t0 e w = by (had_packet w.st)
    where
      by : (b : Bool) → ask (pick b Op.read_status Op.read_interrupt) (λ x. bind (attempt (bind (pick b (bind (valued x w) (status_read (status_reads 999))) (bind (valued x w) interrupt_read)) reply_turn)) (turned (Loop.reply_loop t0) (past (finished len)))) ≡ ioctl_shown len secret (asks w.st false (IoctlPoint.Polling t0 (pick b (PollPoint.Status 999) PollPoint.Interrupt))) e w
      by true = refl
      by false = refl

  test-is : (t0 t : ℕ) (e : AsyncEvent) (w : World) → unroll (bind (attempt (in_time t0 t w)) (turned (Loop.reply_loop t0) (past (finished len)))) ≡ ioctl_shown len secret (test_step w.st t0 t) e w
  unfolding unroll bind attempt turned raise in_time test_step ioctl_tree laid_header list_heard
  test-is t0 t e w = by (ltb (elapsed t0 t) 500000)
    where
      by : (b : Bool) → unroll (bind (attempt (pick b (bind (poll_device w) reply_turn) (stop DriverError.Timeout w))) (turned (Loop.reply_loop t0) (past (finished len)))) ≡ ioctl_shown len secret (pick b (asks w.st false (IoctlPoint.Polling t0 (poll_start w.st.sdpcm))) (refuses w.st false DriverError.Timeout)) e w
      by true = polling-is t0 e w
      by false = refl

  -- a poll of the reply wait brought a packet
  packet-is : (t0 : ℕ) (p : SdpcmPacket) (e : AsyncEvent) (w : World) → Tells w.buf e (PollNext.Got p) → unroll (bind (attempt (reply_turn p w)) (turned (Loop.reply_loop t0) (past (finished len)))) ≡ ioctl_shown len secret (packet_step w.st len t0 e p) e w
  unfolding unroll bind attempt turned raise reply_turn packet_step Tells ioctl_tree laid_header ioctl_op secretly asking Ki list_heard
  packet-is t0 SdpcmPacket.None e w h = refl
  packet-is t0 (SdpcmPacket.Control offset n status) e w h = finish-is (response_of offset n status) false e w.st w
  packet-is t0 (SdpcmPacket.AsyncEvent offset n) e w h = rw (handled-is offset n w, ← h) refl
  packet-is t0 (SdpcmPacket.Data offset n interface) e w h = refl

  -- by what the poll does next
  next-is : (t0 : ℕ) (n : PollNext) (e : AsyncEvent) (w : World) → Tells w.buf e n → unroll (bind (attempt (bind (poll_tree n w) reply_turn)) (turned (Loop.reply_loop t0) (past (finished len)))) ≡ ioctl_shown len secret (reply_next w.st len t0 e n) e w
  unfolding unroll poll_tree reply_next bind attempt turned raise ioctl_tree laid_header ioctl_op poll_op secretly asking Ki list_heard
  next-is t0 (PollNext.Ask PollPoint.Interrupt) e w h = refl
  next-is t0 (PollNext.Ask (PollPoint.Acknowledge v)) e w h = refl
  next-is t0 (PollNext.Ask (PollPoint.Status n)) e w h = refl
  next-is t0 (PollNext.Ask (PollPoint.Waited n)) e w h = refl
  next-is t0 (PollNext.Ask PollPoint.FrameControl) e w h = refl
  next-is t0 (PollNext.Ask (PollPoint.Packet n)) e w h = refl
  next-is t0 (PollNext.Got p) e w h = packet-is t0 p e w h
  next-is t0 (PollNext.Refused x) e w h = refl

  -- ---- the bridge

  pub ioctl-is : (p : IoctlPoint) (x : Ans) (w : World) → InRange (ioctl_op p) x → unroll (Ki len secret p x w) ≡ ioctl_shown len secret (ioctl_step_at len p x w) (event_at p x w) (landed_world (ioctl_op p) x w)
  unfolding Ki unroll bind attempt turned raise valued ioctl_op ioctl_answer at_first at_test reply_poll sending_step told landing ioctl_tree laid_header secretly asking list_heard body
  ioctl-is (IoctlPoint.Sending q) x w h =
      let r = send_step_at (out_of len) q x w in
      followed (after_sent len) (Ks (out_of len) secret q x w) _ (send-is (out_of len) secret q x w h)
      ∙ sending-is r.next r.heard (event_at (IoctlPoint.Sending q) x w) r.st (landed_world (send.send_op q) x w)
  ioctl-is IoctlPoint.First (fault p) w h = refl
  ioctl-is IoctlPoint.First (val t T) w h = refl
  ioctl-is (IoctlPoint.Test t0) (fault p) w h = refl
  ioctl-is (IoctlPoint.Test t0) (val t T) w h = test-is t0 t (event_at (IoctlPoint.Test t0) (val t T) w) w
  ioctl-is (IoctlPoint.Polling t0 q) x w h =
      let v = landed_world (poll_op q) x w in
      let r = poll_step_at q x w in
      lifted reply_turn (turned (Loop.reply_loop t0) (past (finished len))) (Kp q x w) _ (poll-is q x w h)
      ∙ next-is t0 r.next (event_at (IoctlPoint.Polling t0 q) x w) (with_state v (with_sdpcm v.st r.sdpcm)) (poll-tells q x w)
  ioctl-is (IoctlPoint.Waited t0) x w h = refl

  -- ---- the beginning

  size_is : len < 65000 → (len + 28) % 65536 ≡ 12 + (16 + len)
  size_is h = omega arith

  common-is : len < 65000 → (w : World) → send_common 0 (16 + len) secret w ≡ bind (until_free w) (after_free (out_of len) secret)
  unfolding send_common out_of
  common-is h w = rw (size_is h) refl

-- a request's header is laid, and its packet sent
pub start_is : (r : Request) (e : AsyncEvent) (w : World) → length r.payload < 65000 → unroll (do_ioctl r w) ≡ ioctl_shown (length r.payload) r.secret (start_step w.st (length r.payload)) e (with_buf w (over w.buf 12 (ioctl_header r (next_id w))))
unfolding do_ioctl numbered start_step sending_step
start_is r e w small =
    let len = length r.payload in
    let v = with_buf w (over w.buf 12 (ioctl_header r (next_id w))) in
    let u = with_state v (numbering v.st) in
    let x = send.start_step u.st (out_of len) in
    ap (λ t. unroll (bind t (after_sent len))) (common-is len r.secret small u)
    ∙ (followed (after_sent len) (bind (until_free u) (after_free (out_of len) r.secret)) _ (sent.start_is (out_of len) r.secret e u)
    ∙ sending-is len r.secret x.next x.heard e x.st v)
