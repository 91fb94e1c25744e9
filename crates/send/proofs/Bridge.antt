-- A send's step is the tree's: at every point, for every answer, in every world.
use Rattle.std.proofs.Common.{◌≡◌, ℕ, zero, suc, ◌+◌, ◌-◌, ◌%◌, ◌<◌, Bool, true, false, eqb, ltb, List, [], take, drop, sym, refl, ap, ◌∙◌, arith}
use lib.Bits.{bit_and}
use lib.Dec.{eqb-suc-zero}
use Rattle.slices.specs.Pick.{pick}
use Rattle.slices.specs.Le.{round4}
use Rattle.wlan.specs.State.{with_sdpcm}
use Rattle.wlan.specs.declared.AsyncEvent.{AsyncEvent}
use Rattle.wlan.specs.declared.SdpcmPacket.{SdpcmPacket}
use Rattle.wlan.specs.declared.DriverError.{DriverError}
use Rattle.wlan.specs.declared.State.{State}
use Rattle.definition.specs.Bus.{Bytes, Op, Ans, fault, val, Place}
use Rattle.definition.specs.Prog.{World, world, with_state, with_buf, Fin, fine, failed, Turn, again, out, Loop, Prog, ret, stop, ask, say, loop, note, bind, attempt, raise, turned, valued, operate}
use Rattle.definition.specs.Event.{after, event_of, handled}
use Rattle.definition.specs.Device.{poll_first, poll_by, had_packet}
use Rattle.definition.specs.Send.{elapsed, clock, free, response_of, storing, still_stalled, stall_test, stall_turn, stalled, until_free, until_ready, written, headed, emitted, send_common}
use Rattle.definition.specs.Poll.{first, body}
use Rattle.definition.proofs.Compose.{unroll, lifted}
use Rattle.handling.specs.declared.Handled.{Handled}
use Rattle.handling.specs.Handle.{state_after, handled_of, list_heard}
use Rattle.device.specs.declared.PollPoint.{PollPoint}
use Rattle.device.specs.declared.PollNext.{PollNext}
use Rattle.device.specs.Poll.{poll_op, poll_start, poll_answer}
use Rattle.device.specs.Meaning.{secretly, op_in, asking, told, landing, InRange, arrival_at, Kp, poll_tree, landed_world, poll_step_at, Tells}
use Rattle.device.proofs.Bridge.{poll-is, poll-tells}
use Rattle.send.specs.declared.OutPacket.{OutPacket}
use Rattle.send.specs.declared.StallPoint.{StallPoint}
use Rattle.send.specs.declared.SendPoint.{SendPoint}
use Rattle.send.specs.declared.SendNext.{SendNext}
use Rattle.send.specs.declared.SendStep.{SendStep}
use Rattle.send.specs.Send.{stall_op, send_op, step, asks, refuses, spending, put_of, emit_step, test_step, start_step, polling_step, stored, packet_step, stall_next, stall_poll, late_step, at_first, at_late, stall_answer, ready_step, at_ready, at_writing, send_answer}
use Rattle.send.specs.Meaning.{laid_header, past, after_free, writing, Kstall, Ks, send_tree, send_shown, event_at, send_step_at}

-- ---- an event in a world

pub handled-is : (offset len : ℕ) (w : World) → let h = handled_of w.st len (event_of (drop offset w.buf) len) in handled offset len w ≡ world h.st w.buf (list_heard h.heard (event_of (drop offset w.buf) len) w.list)
unfolding handled handled_of state_after list_heard
handled-is offset len w = by (ltb len 48)
  where
    e : AsyncEvent
    e = event_of (drop offset w.buf) len

    h : Bool → Handled
    h b = pick b (record { st = w.st; heard = false }) (record { st = state_after e w.st; heard = true })

    by : (b : Bool) → pick b w (after e w) ≡ world (h b).st w.buf (list_heard (h b).heard e w.list)
    by true = refl
    by false = refl

module _ (o : OutPacket) (secret : Place) where
  -- the stall is over: the header is laid, the sequence number spent
  emit-is : (h : Bool) (e : AsyncEvent) (s : State) (w : World) → unroll (after_free o secret tt (world s w.buf (list_heard h e w.list))) ≡ send_shown o secret (emit_step s h o) e w
  unfolding unroll emitted emit_step written until_ready operate bind send_tree laid_header send_op secretly asking Ks
  emit-is h e s w = by (ltb 2040 (round4 o.size))
    where
      v : World
      v = headed o.channel o.size (world s w.buf (list_heard h e w.list))

      by : (b : Bool) → unroll (pick b (stop DriverError.InvalidArg v) (bind (until_ready 1000 v) (λ u. written o.size secret))) ≡ send_shown o secret (pick b (step (spending s) h (SendNext.Refused (put_of s o) DriverError.InvalidArg)) (step (spending s) h (SendNext.Ask (put_of s o) (SendPoint.Ready 999 (round4 o.size))))) e w
      by true = refl
      by false = refl

  -- after a poll of a stall
  test-is : (t0 : ℕ) (h : Bool) (e : AsyncEvent) (s : State) (w : World) → unroll (bind (attempt (stall_test t0 (world s w.buf (list_heard h e w.list)))) (turned (Loop.stall_loop t0) (past (after_free o secret)))) ≡ send_shown o secret (test_step s h o t0) e w
  unfolding unroll bind attempt turned raise stall_test operate test_step send_tree laid_header send_op stall_op secretly asking Ks Kstall
  test-is t0 h e s w = by (free s)
    where
      v : World
      v = world s w.buf (list_heard h e w.list)

      by : (b : Bool) → unroll (bind (attempt (pick b (ret (out tt) v) (bind (clock v) (still_stalled t0)))) (turned (Loop.stall_loop t0) (past (after_free o secret)))) ≡ send_shown o secret (pick b (emit_step s h o) (asks s h (SendPoint.Stall (StallPoint.Late t0)))) e w
      by true = emit-is h e s w
      by false = refl

  -- polling begins
  polling-is : (t0 : ℕ) (e : AsyncEvent) (s : State) (w : World) → unroll (loop (Loop.stall_loop t0) (world s w.buf w.list) (past (after_free o secret))) ≡ send_shown o secret (polling_step s t0) e w
  unfolding unroll polling_step poll_start poll_by body bind send_tree laid_header send_op stall_op poll_op secretly asking Ks Kstall Kp list_heard
  polling-is t0 e s w = by (had_packet s)
    where
      v : World
      v = world s w.buf w.list

      by : (b : Bool) → ask (pick b Op.read_status Op.read_interrupt) (λ x. bind (attempt (bind (pick b (bind (valued x v) (Rattle.definition.specs.Device.status_read (Rattle.definition.specs.Device.status_reads 999))) (bind (valued x v) Rattle.definition.specs.Device.interrupt_read)) (stall_turn t0))) (turned (Loop.stall_loop t0) (past (after_free o secret)))) ≡ send_shown o secret (asks s false (SendPoint.Stall (StallPoint.Polling t0 (pick b (PollPoint.Status 999) PollPoint.Interrupt)))) e w
      by true = refl
      by false = refl

  -- a poll of a stall brought a packet
  packet-is : (t0 : ℕ) (p : SdpcmPacket) (e : AsyncEvent) (w : World) → Tells w.buf e (PollNext.Got p) → unroll (bind (attempt (stall_turn t0 p w)) (turned (Loop.stall_loop t0) (past (after_free o secret)))) ≡ send_shown o secret (packet_step w.st o t0 e p) e w
  unfolding stall_turn packet_step Tells bind attempt turned list_heard
  packet-is t0 SdpcmPacket.None e w h = test-is t0 false e w.st w
  packet-is t0 (SdpcmPacket.Control offset len status) e w h = polling-is t0 e (stored w.st offset len status) w
  packet-is t0 (SdpcmPacket.AsyncEvent offset len) e w h =
      rw (handled-is offset len w, ← h) (test-is t0 (handled_of w.st len e).heard e (handled_of w.st len e).st w)
  packet-is t0 (SdpcmPacket.Data offset len interface) e w h = test-is t0 false e w.st w

  -- by what the poll does next
  next-is : (t0 : ℕ) (n : PollNext) (e : AsyncEvent) (w : World) → Tells w.buf e n → unroll (bind (attempt (bind (poll_tree n w) (stall_turn t0))) (turned (Loop.stall_loop t0) (past (after_free o secret)))) ≡ send_shown o secret (stall_next w.st o t0 e n) e w
  unfolding unroll poll_tree stall_next bind attempt turned raise send_tree laid_header send_op stall_op poll_op secretly asking Ks Kstall list_heard
  next-is t0 (PollNext.Ask PollPoint.Interrupt) e w h = refl
  next-is t0 (PollNext.Ask (PollPoint.Acknowledge v)) e w h = refl
  next-is t0 (PollNext.Ask (PollPoint.Status n)) e w h = refl
  next-is t0 (PollNext.Ask (PollPoint.Waited n)) e w h = refl
  next-is t0 (PollNext.Ask PollPoint.FrameControl) e w h = refl
  next-is t0 (PollNext.Ask (PollPoint.Packet n)) e w h = refl
  next-is t0 (PollNext.Got p) e w h = packet-is t0 p e w h
  next-is t0 (PollNext.Refused x) e w h = refl

  late_is : (t0 t : ℕ) (e : AsyncEvent) (w : World) → unroll (bind (attempt (still_stalled t0 t w)) (turned (Loop.stall_loop t0) (past (after_free o secret)))) ≡ send_shown o secret (late_step w.st t0 t) e w
  unfolding unroll bind attempt turned raise still_stalled late_step send_tree laid_header send_op stall_op secretly asking Ks Kstall list_heard
  late_is t0 t e w = by (ltb 1000000 (elapsed t0 t))
    where
      by : (b : Bool) → unroll (bind (attempt (pick b (stop DriverError.Timeout w) (say (Op.wait 100000) (ret again w)))) (turned (Loop.stall_loop t0) (past (after_free o secret)))) ≡ send_shown o secret (pick b (refuses w.st DriverError.Timeout) (asks w.st false (SendPoint.Stall (StallPoint.Waited t0)))) e w
      by true = refl
      by false = refl

  ready-is : (left n s : ℕ) (e : AsyncEvent) (w : World) → unroll (bind {A = Unit {0}} (pick (eqb (bit_and s 0x20) 0) (until_ready left w) (ret tt w)) (λ u. writing n secret)) ≡ send_shown o secret (ready_step w.st left n s) e w
  unfolding unroll bind until_ready operate ready_step send_tree laid_header send_op secretly asking Ks list_heard
  ready-is zero n s e w = by (eqb (bit_and s 0x20) 0)
    where
      by : (b : Bool) → unroll (bind {A = Unit {0}} (pick b (stop DriverError.Timeout w) (ret tt w)) (λ u. writing n secret)) ≡ send_shown o secret (pick b (refuses w.st DriverError.Timeout) (asks w.st false (SendPoint.Writing n))) e w
      by true = refl
      by false = refl
  ready-is (suc left) n s e w = rw (eqb-suc-zero left, less left) (by (eqb (bit_and s 0x20) 0))
    where
      less : (m : ℕ) → suc m - 1 ≡ m
      less m = omega arith

      by : (b : Bool) → unroll (bind {A = Unit {0}} (pick b (until_ready (suc left) w) (ret tt w)) (λ u. writing n secret)) ≡ send_shown o secret (pick b (asks w.st false (SendPoint.Ready left n)) (asks w.st false (SendPoint.Writing n))) e w
      by true = refl
      by false = refl

  -- ---- the bridge

  small32 : (v : ℕ) → v < 4294967296 → v % 4294967296 ≡ v
  small32 v h = omega arith

  stall-is : (p : StallPoint) (x : Ans) (w : World) → InRange (stall_op p) x → unroll (Kstall o secret p x w) ≡ send_shown o secret (send_step_at o (SendPoint.Stall p) x w) (event_at (SendPoint.Stall p) x w) (landed_world (stall_op p) x w)
  unfolding Kstall unroll bind attempt turned raise valued send_op stall_op send_answer stall_answer at_first at_late stall_poll told landing send_tree laid_header list_heard
  stall-is StallPoint.First (fault p) w h = refl
  stall-is StallPoint.First (val t T) w h = polling-is t (event_at (SendPoint.Stall StallPoint.First) (val t T) w) w.st w
  stall-is (StallPoint.Polling t0 q) x w h =
      let v = landed_world (poll_op q) x w in
      let r = poll_step_at q x w in
      lifted (stall_turn t0) (turned (Loop.stall_loop t0) (past (after_free o secret))) (Kp q x w) _ (poll-is q x w h)
      ∙ next-is t0 r.next (event_at (SendPoint.Stall (StallPoint.Polling t0 q)) x w) (with_state v (with_sdpcm v.st r.sdpcm)) (poll-tells q x w)
  stall-is (StallPoint.Late t0) (fault p) w h = refl
  stall-is (StallPoint.Late t0) (val t T) w h = late_is t0 t (event_at (SendPoint.Stall (StallPoint.Late t0)) (val t T) w) w
  stall-is (StallPoint.Waited t0) x w h = polling-is t0 (event_at (SendPoint.Stall (StallPoint.Waited t0)) x w) w.st w

  pub send-is : (p : SendPoint) (x : Ans) (w : World) → InRange (send_op p) x → unroll (Ks o secret p x w) ≡ send_shown o secret (send_step_at o p x w) (event_at p x w) (landed_world (send_op p) x w)
  unfolding Ks unroll bind valued send_op send_answer at_ready at_writing told landing send_tree laid_header InRange list_heard
  send-is (SendPoint.Stall p) x w h = stall-is p x w h
  send-is (SendPoint.Ready left n) (fault p) w h = refl
  send-is (SendPoint.Ready left n) (val v T) w h = rw (small32 v h) (ready-is left n v (event_at (SendPoint.Ready left n) (val v T) w) w)
  send-is (SendPoint.Writing n) (fault p) w h = refl
  send-is (SendPoint.Writing n) (val v T) w h = refl

  -- a send's beginning
  pub start_is : (e : AsyncEvent) (w : World) → unroll (bind (until_free w) (after_free o secret)) ≡ send_shown o secret (start_step w.st o) e w
  unfolding unroll bind until_free operate start_step send_tree laid_header send_op stall_op secretly asking Ks Kstall list_heard
  start_is e w = by (free w.st)
    where
      by : (b : Bool) → unroll (bind (pick b (ret tt w) (bind (clock w) stalled)) (after_free o secret)) ≡ send_shown o secret (pick b (emit_step w.st false o) (asks w.st false (SendPoint.Stall StallPoint.First))) e w
      by true = emit-is false e w.st w
      by false = refl
