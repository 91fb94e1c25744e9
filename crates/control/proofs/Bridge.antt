-- A call's step is the tree's: at every point, for every answer, in every world.
use mathlib.Core.Path.{◌≡◌, refl, ap, ◌∙◌}
use mathlib.Core.Bool.{Bool, true, false}
use Prim.Native.Nat.{ℕ, ◌-◌, ◌*◌, ◌%◌}
use native.Mathlib.Omega.{arith}
use lib.Dec.{ltb, leb}
use Rattle.slices.specs.Pick.{pick}
use Rattle.wlan.specs.declared.WifiState.{WifiState}
use Rattle.wlan.specs.declared.DriverError.{DriverError}
use Rattle.wlan.specs.declared.AsyncEvent.{AsyncEvent}
use Rattle.wlan.specs.declared.State.{State}
use Rattle.wlan.specs.State.{with_sdpcm, with_link}
use Rattle.wlan.specs.declared.Success.{Success}
use Rattle.wlan.specs.declared.WlanPollResult.{WlanPollResult}
use Rattle.wlan.specs.declared.SdpcmPacket.{SdpcmPacket}
use Rattle.definition.specs.Bus.{Op, Ans, low_of, nowhere, fault, val}
use Rattle.definition.specs.Prog.{World, world, with_state, Prog, ret, stop, ask, M, bind, attempt, raise, pause, operate, valued, again, out, Loop, loop, turned}
use Rattle.definition.specs.Send.{elapsed}
use Rattle.definition.specs.Ioctl.{laid, do_ioctl, exchange}
use Rattle.definition.specs.Poll.{Result, giving, failure_report, poll_turn, timed_out, disconnect_timeout, polled, first, body, holding}
use Rattle.definition.specs.Join.{is_dev_error, down_on_error, linked, security, pmk_set, sae_set, key_laid}
use Rattle.definition.proofs.Compose.{unroll, opened, followed, lifted}
use Rattle.definition.specs.Calls.{settled}
use Rattle.definition.specs.Event.{released}
use Rattle.definition.specs.Device.{had_packet, poll_by, status_read, status_reads, interrupt_read}
use Rattle.definition.specs.Request as def
use Rattle.handling.specs.Handle.{list_heard, handled_of}
use Rattle.requests.specs.declared.Request.{Request}
use Rattle.device.specs.Meaning.{op_in, asking, secretly, InRange, landed_world, Kp, poll_tree, poll_step_at, Tells, told, landing}
use Rattle.device.specs.declared.PollPoint.{PollPoint}
use Rattle.device.specs.declared.PollNext.{PollNext}
use Rattle.device.specs.Poll.{poll_op, poll_start}
use Rattle.device.proofs.Asking.{asking-bind, unroll-asking}
use Rattle.device.proofs.Bridge.{poll-tells}
use Rattle.device.proofs.Bridge as device-bridge
use Rattle.send.specs.declared.SendNext.{SendNext}
use Rattle.send.specs.declared.SendPoint.{SendPoint}
use Rattle.send.specs.Meaning.{laid_header, past, Ks, send_tree, send_step_at}
use Rattle.send.specs.Send.{stored}
use Rattle.send.proofs.Bridge.{handled-is}
use Rattle.send.specs.Send as send
use Rattle.send.proofs.Bridge as send-bridge
use Rattle.ioctl.specs.declared.IoctlNext.{IoctlNext}
use Rattle.ioctl.specs.declared.IoctlPoint.{IoctlPoint}
use Rattle.ioctl.specs.Meaning.{Ki, ioctl_tree, ioctl_step_at}
use Rattle.ioctl.specs.Ioctl as ioctl
use Rattle.ioctl.proofs.Bridge as ioctl-bridge
use Rattle.control.specs.declared.Stage.{Stage}
use Rattle.control.specs.declared.CallPoint.{CallPoint}
use Rattle.control.specs.declared.Before.{Before}
use Rattle.control.specs.declared.RequestPut.{RequestPut}
use Rattle.control.specs.declared.CallNext.{CallNext}
use Rattle.control.specs.declared.PausePoint.{PausePoint}
use Rattle.control.specs.Steps.{call_op, lays, step, linked_state, pause_ns, asks, refuses}
use Rattle.control.specs.Stages.{request_at, is_tried, is_last}
use Rattle.control.specs.Meaning.{Args, lens_of, request_in, len_at, laid_before, laid_request, laid_all, list_at, rest, refused_at, after_stage, Kc, secret_at, call_tree, call_shown, event_at, call_step_at, success_of, Kpause, from_infra, after_key, after_tmo, from_wsec, after_join_ba_wsize, after_wpa_auth, from_event_messages}
use Rattle.control.specs.Poll.{polling_step, polled_step, down_report, report_by, report_step, tick_step, nothing_by, nothing_step, held, frame_step, packet_step, next_step, poll_point, timed_out_state, poll_tick}
use Rattle.control.specs.Begin.{call_answer, frame_out, sending_next, sending_step}
use Rattle.control.specs.Exchange.{begins, sae_step, key_step, length_step, connecting_state, ssid_step, scan_step, after_step, failed_step, exchange_next, exchange_answer, pause_answer, settle_step, clock_answer, tick_answer}
use Rattle.control.proofs.StageBridge.{Modest, len-fits, ask-is, plain-is, last-is, begin-is, begin-numbered-is, plain-begin, tried-begin}
use Rattle.std.specs.Prelude.{Option, Some, None, ℕ}
use Rattle.wlan.specs.declared.WifiConnectFailure.{WifiConnectFailure}
use Rattle.send.specs.declared.Header.{Header}

module _ (a : Args) (m : Modest a) where
  -- ---- what follows a stage

  sae-is : (h : Bool) (before : Before) (e : AsyncEvent) (s : State) (w : World) → unroll (after_key a (world s (laid_before before w.buf) (list_heard h e w.list))) ≡ call_shown a (sae_step a.job (lens_of a) s h before) e w
  unfolding unroll bind sae_set sae_step pause call_tree call_op pause_ns secret_at secretly asking Kc Kpause laid_all laid_request laid_header list_at is_tried is_last request_at rest
  sae-is h before e s w = by (security a.job.auth).sae
    where
      v : World
      v = world s (laid_before before w.buf) (list_heard h e w.list)

      by : (b : Bool) → unroll (bind (sae_set b a.second v) (λ u. from_infra a)) ≡ call_shown a (pick b (asks s h before (CallPoint.Pause PausePoint.BeforeSae)) (begins a.job (lens_of a) Stage.Infra s h before)) e w
      by true = refl
      by false = plain-begin a Stage.Infra h before e s w m refl refl

  key-is : (h : Bool) (before : Before) (e : AsyncEvent) (s : State) (w : World) → unroll (after_tmo a (world s (laid_before before w.buf) (list_heard h e w.list))) ≡ call_shown a (key_step a.job (lens_of a) s h before) e w
  unfolding unroll bind pmk_set key_laid laid key_step pause call_tree call_op pause_ns secret_at secretly asking Kc Kpause laid_all laid_request laid_header list_at
  key-is h before e s w = by (security a.job.auth).pmk
    where
      v : World
      v = world s (laid_before before w.buf) (list_heard h e w.list)

      by : (b : Bool) → unroll (bind (pmk_set b a.second v) (λ u. after_key a)) ≡ call_shown a (pick b (step s h (lays before (RequestPut.Payload Request.Key) None) (CallNext.Ask (CallPoint.Pause PausePoint.BeforeKey))) (sae_step a.job (lens_of a) s h before)) e w
      by true = refl
      by false = sae-is h before e s w

  length-is : (h : Bool) (before : Before) (e : AsyncEvent) (s : State) (w : World) → unroll (after_join_ba_wsize a (world s (laid_before before w.buf) (list_heard h e w.list))) ≡ call_shown a (length_step a.job (lens_of a) s h before) e w
  unfolding unroll bind length_step call_tree laid_all laid_request laid_header list_at rest is_tried is_last request_at
  length-is h before e s w = by a.job.long_passphrase
    where
      v : World
      v = world s (laid_before before w.buf) (list_heard h e w.list)

      by : (b : Bool) → unroll (bind {A = Unit {0}} (pick b (stop DriverError.InvalidArg v) (ret tt v)) (λ u. from_wsec a)) ≡ call_shown a (pick b (refuses s h before DriverError.InvalidArg) (begins a.job (lens_of a) Stage.Wsec s h before)) e w
      by true = refl
      by false = plain-begin a Stage.Wsec h before e s w m refl refl

  ssid-is : (h : Bool) (before : Before) (e : AsyncEvent) (s : State) (w : World) → unroll (after_wpa_auth a (world s (laid_before before w.buf) (list_heard h e w.list))) ≡ call_shown a (ssid_step a.job (lens_of a) s h before) e w
  unfolding unroll bind attempt down_on_error is_dev_error ssid_step call_tree laid_all laid_request laid_header list_at def.join_ssid exchange request_at
  ssid-is h before e s w = by a.job.long_ssid
    where
      v : World
      v = world (connecting_state a.job s) (laid_before before w.buf) (list_heard h e w.list)

      by : (b : Bool) → unroll (bind (attempt (pick b (stop DriverError.InvalidArg v) (exchange (def.join_ssid a.first) v))) down_on_error) ≡ call_shown a (pick b (refuses (linked_state (connecting_state a.job s) WifiState.Down) h before DriverError.InvalidArg) (begins a.job (lens_of a) Stage.Ssid (connecting_state a.job s) h before)) e w
      by true = refl
      by false = ap unroll (last-is a (exchange (def.join_ssid a.first) v)) ∙ begin-is a Stage.Ssid h before e (connecting_state a.job s) w m

  pub rest-is : (g : Stage) (h : Bool) (before : Before) (e : AsyncEvent) (s : State) (w : World) → unroll (rest a g (world s (laid_before before w.buf) (list_heard h e w.list))) ≡ call_shown a (after_step a.job (lens_of a) g s h before) e w
  unfolding unroll bind rest pause operate after_step scan_step call_tree call_op pause_ns secret_at secretly asking Kc Kpause laid_all laid_request laid_header list_at success_of is_tried is_last request_at
  rest-is Stage.Country h before e s w = refl
  rest-is Stage.AntDiv h before e s w = tried-begin a Stage.Txglom h before e s w m refl
  rest-is Stage.Txglom h before e s w = tried-begin a Stage.Apsta h before e s w m refl
  rest-is Stage.Apsta h before e s w = tried-begin a Stage.BaWsize h before e s w m refl
  rest-is Stage.BaWsize h before e s w = tried-begin a Stage.Mpdu h before e s w m refl
  rest-is Stage.Mpdu h before e s w = tried-begin a Stage.RxFactor h before e s w m refl
  rest-is Stage.RxFactor h before e s w = refl
  rest-is Stage.EventMessages h before e s w = refl
  rest-is Stage.InitUp h before e s w = refl
  rest-is Stage.JoinBaWsize h before e s w = length-is h before e s w
  rest-is Stage.Wsec h before e s w = plain-begin a Stage.SupWpa h before e s w m refl refl
  rest-is Stage.SupWpa h before e s w = plain-begin a Stage.Eapver h before e s w m refl refl
  rest-is Stage.Eapver h before e s w = tried-begin a Stage.SupWpaTmo h before e s w m refl
  rest-is Stage.SupWpaTmo h before e s w = key-is h before e s w
  rest-is Stage.Key h before e s w = sae-is h before e s w
  rest-is Stage.Sae h before e s w = plain-begin a Stage.Infra h before e s w m refl refl
  rest-is Stage.Infra h before e s w = plain-begin a Stage.Auth h before e s w m refl refl
  rest-is Stage.Auth h before e s w = plain-begin a Stage.Mfp h before e s w m refl refl
  rest-is Stage.Mfp h before e s w = plain-begin a Stage.WpaAuth h before e s w m refl refl
  rest-is Stage.WpaAuth h before e s w = ssid-is h before e s w
  rest-is Stage.Ssid h before e s w = refl
  rest-is Stage.Escan h before e s w = refl
  rest-is Stage.Disassoc h before e s w = refl
  rest-is Stage.Single h before e s w = refl

  -- ---- a stage's exchange was refused

  failed-is : (g : Stage) (h : Bool) (p : Option Header) (x : DriverError) (e : AsyncEvent) (s : State) (w : World) → unroll (refused_at a g x (world s (laid_header p w.buf) (list_heard h e w.list))) ≡ call_shown a (failed_step a.job (lens_of a) g s h p x) e w
  unfolding unroll refused_at failed_step call_tree laid_all laid_before laid_request laid_header list_at
  failed-is g h p x e s w = by (is_dev_error x) (is_tried g) (is_last g)
    where
      v : World
      v = world s (laid_header p w.buf) (list_heard h e w.list)

      by : (b c d : Bool) → unroll (pick b (pick c (rest a g v) (pick d (stop x (linked WifiState.Down v)) (stop x v))) (stop x v)) ≡ call_shown a (pick b (pick c (after_step a.job (lens_of a) g s h (Before.Header p)) (pick d (refuses (linked_state s WifiState.Down) h (Before.Header p) x) (refuses s h (Before.Header p) x))) (refuses s h (Before.Header p) x)) e w
      by true true d = rest-is g h (Before.Header p) e s w
      by true false true = refl
      by true false false = refl
      by false c d = refl

  next-is : (g : Stage) (n : IoctlNext) (h : Bool) (e : AsyncEvent) (s : State) (w : World) → unroll (bind (attempt (ioctl_tree (len_at a g) (request_in a g).secret n (world s w.buf (list_heard h e w.list)))) (after_stage a g)) ≡ call_shown a (exchange_next a.job (lens_of a) g s h n) e w
  unfolding ioctl_tree bind attempt after_stage exchange_next laid_all laid_before laid_request list_at
  next-is g (IoctlNext.Ask p q) h e s w = ask-is a g q (world s (laid_header p w.buf) (list_heard h e w.list))
  next-is g (IoctlNext.Done c) h e s w = rest-is g h (Before.Copy c) e s w
  next-is g (IoctlNext.Refused p x) h e s w = failed-is g h p x e s w

  exchange-is : (g : Stage) (q : IoctlPoint) (x : Ans) (w : World) → InRange (ioctl.ioctl_op q) x → unroll (Kc a (CallPoint.Exchange g q) x w) ≡ call_shown a (call_step_at a (CallPoint.Exchange g q) x w) (event_at (CallPoint.Exchange g q) x w) (landed_world (ioctl.ioctl_op q) x w)
  unfolding Kc call_op call_answer exchange_answer
  exchange-is g q x w h =
      let r = ioctl_step_at (len_at a g) q x w in
      opened (after_stage a g) (Ki (len_at a g) (request_in a g).secret q x w) _ (ioctl-bridge.ioctl-is (len_at a g) (request_in a g).secret q x w h)
      ∙ (next-is g r.next r.heard (event_at (CallPoint.Exchange g q) x w) r.st (landed_world (ioctl.ioctl_op q) x w)
      ∙ rw (len-fits a g m) refl)

  -- ---- waits, clock and tick

  pause-is : (q : PausePoint) (e : AsyncEvent) (w : World) → unroll (Kpause a q w) ≡ call_shown a (pause_answer a.job (lens_of a) w.st q) e w
  unfolding Kpause pause_answer unroll bind key_laid exchange rest request_at is_tried is_last laid_before laid_request laid_header laid_all list_heard list_at call_tree success_of
  pause-is PausePoint.AfterCountry e w = plain-begin a Stage.AntDiv false Before.None e w.st w m refl refl
  pause-is (PausePoint.Settle ns) e w = plain-begin a Stage.EventMessages false Before.None e w.st w m refl refl
  pause-is PausePoint.AfterEventMessages e w = plain-begin a Stage.InitUp false Before.None e w.st w m refl refl
  pause-is PausePoint.AfterUp e w = refl
  pause-is PausePoint.BeforeKey e w = ap unroll (plain-is a Stage.Key (do_ioctl (def.set_key a.second) w) refl refl) ∙ begin-numbered-is a Stage.Key e w m
  pause-is PausePoint.BeforeSae e w = plain-begin a Stage.Sae false Before.None e w.st w m refl refl

  settle_is : (t : ℕ) (e : AsyncEvent) (w : World) → unroll (bind (settled t w) (λ u. from_event_messages)) ≡ call_shown a (settle_step a.job (lens_of a) w.st t) e w
  unfolding unroll bind settled pause settle_step call_tree call_op pause_ns secret_at secretly asking Kc Kpause rest request_at is_tried is_last laid_before laid_request laid_header laid_all list_heard list_at
  settle_is t e w = by (ltb (elapsed 0 t % 4294967296) 150000)
    where
      n : ℕ
      n = (150000 - elapsed 0 t % 4294967296) * 1000

      small : low_of n ≡ n
      small = omega arith

      by : (b : Bool) → unroll (bind (pick b (pause n w) (ret tt w)) (λ u. from_event_messages)) ≡ call_shown a (pick b (asks w.st false Before.None (CallPoint.Pause (PausePoint.Settle n))) (begins a.job (lens_of a) Stage.EventMessages w.st false Before.None)) e w
      by true = rw small refl
      by false = plain-begin a Stage.EventMessages false Before.None e w.st w m refl refl

  -- ---- poll

  report-is : (e : AsyncEvent) (w : World) → unroll (failure_report w.st.link.state w.st.link.connect_failure w) ≡ call_shown a (report_step w.st) e w
  unfolding unroll failure_report report_by down_report call_tree success_of laid_before laid_request laid_header laid_all list_heard list_at
  report-is e w = by w.st.link.state w.st.link.connect_failure refl
    where
      by : (s : WifiState) (f : Option WifiConnectFailure) → f ≡ w.st.link.connect_failure → unroll (failure_report s f w) ≡ call_shown a (report_by w.st s) e w
      by WifiState.Down None q = rw (← q) refl
      by WifiState.Down (Some f) q = rw (← q) refl
      by WifiState.Connecting f q = refl
      by WifiState.Connected f q = refl
      by WifiState.Disconnecting f q = refl

  reported : M Result
  reported v = failure_report v.st.link.state v.st.link.connect_failure v

  tick_is : (t : Option ℕ) (e : AsyncEvent) (w : World) → unroll (bind (disconnect_timeout WifiState.Disconnecting t w) (λ u. reported)) ≡ call_shown a (tick_step w.st t) e w
  unfolding unroll bind disconnect_timeout operate tick_step reported call_tree call_op secret_at secretly asking Kc laid_before laid_request laid_header laid_all list_heard list_at
  tick_is None e w = report-is e w
  tick_is (Some n) e w = refl

  nothing_is : (e : AsyncEvent) (w : World) → unroll (polled false w) ≡ call_shown a (nothing_step w.st) e w
  unfolding bind polled disconnect_timeout nothing_by reported
  nothing_is e w = by w.st.link.state
    where
      by : (s : WifiState) → unroll (bind (disconnect_timeout s w.st.link.disconnect_started_tick w) (λ u. reported)) ≡ call_shown a (nothing_by w.st s) e w
      by WifiState.Down = report-is e w
      by WifiState.Connecting = report-is e w
      by WifiState.Connected = report-is e w
      by WifiState.Disconnecting = tick_is w.st.link.disconnect_started_tick e w

  -- a turn begins
  pub polling-is : (h : Bool) (e : AsyncEvent) (s : State) (w : World) → unroll (loop Loop.poll_loop (world s w.buf (list_heard h e w.list)) (past polled)) ≡ call_shown a (polling_step s h) e w
  unfolding unroll polling_step poll_start poll_by body bind call_tree call_op secret_at poll_op secretly asking Kc Kp laid_before laid_request laid_header laid_all list_heard list_at
  polling-is h e s w = by (had_packet s)
    where
      v : World
      v = world s w.buf (list_heard h e w.list)

      by : (b : Bool) → ask (pick b Op.read_status Op.read_interrupt) (λ x. bind (attempt (bind (pick b (bind (valued x v) (status_read (status_reads 999))) (bind (valued x v) interrupt_read)) poll_turn)) (turned Loop.poll_loop (past polled))) ≡ call_shown a (asks s h Before.None (CallPoint.Poll (pick b (PollPoint.Status 999) PollPoint.Interrupt))) e w
      by true = refl
      by false = refl

  frame_is : (offset len : ℕ) (e : AsyncEvent) (w : World) → unroll (bind (attempt (pick (ltb len 14) (ret again w) (ret (out true) (holding offset len w)))) (turned Loop.poll_loop (past polled))) ≡ call_shown a (frame_step w.st offset len) e w
  unfolding unroll bind attempt turned raise polled frame_step call_tree success_of laid_before laid_request laid_header laid_all list_heard list_at
  frame_is offset len e w = by (ltb len 14)
    where
      by : (b : Bool) → unroll (bind (attempt (pick b (ret again w) (ret (out true) (holding offset len w)))) (turned Loop.poll_loop (past polled))) ≡ call_shown a (pick b (polling_step w.st false) (polled_step (held w.st offset len) WlanPollResult.Rx)) e w
      by true = polling-is false e w.st w
      by false = refl

  packet-is : (p : SdpcmPacket) (e : AsyncEvent) (w : World) → Tells w.buf e (PollNext.Got p) → unroll (bind (attempt (poll_turn p w)) (turned Loop.poll_loop (past polled))) ≡ call_shown a (packet_step w.st e p) e w
  unfolding poll_turn packet_step Tells bind attempt turned raise list_heard
  packet-is SdpcmPacket.None e w h = nothing_is e w
  packet-is (SdpcmPacket.Control offset len status) e w h = polling-is false e (stored w.st offset len status) w
  packet-is (SdpcmPacket.AsyncEvent offset len) e w h =
      rw (handled-is offset len w, ← h) (polling-is (handled_of w.st len e).heard e (handled_of w.st len e).st w)
  packet-is (SdpcmPacket.Data offset len interface) e w h = frame_is offset len e w

  poll-next-is : (n : PollNext) (e : AsyncEvent) (w : World) → Tells w.buf e n → unroll (bind (attempt (bind (poll_tree n w) poll_turn)) (turned Loop.poll_loop (past polled))) ≡ call_shown a (next_step w.st e n) e w
  unfolding unroll poll_tree next_step bind attempt turned raise call_tree call_op secret_at poll_op secretly asking Kc laid_before laid_request laid_header laid_all list_heard list_at
  poll-next-is (PollNext.Ask PollPoint.Interrupt) e w h = refl
  poll-next-is (PollNext.Ask (PollPoint.Acknowledge v)) e w h = refl
  poll-next-is (PollNext.Ask (PollPoint.Status n)) e w h = refl
  poll-next-is (PollNext.Ask (PollPoint.Waited n)) e w h = refl
  poll-next-is (PollNext.Ask PollPoint.FrameControl) e w h = refl
  poll-next-is (PollNext.Ask (PollPoint.Packet n)) e w h = refl
  poll-next-is (PollNext.Got p) e w h = packet-is p e w h
  poll-next-is (PollNext.Refused x) e w h = refl

  poll-is : (q : PollPoint) (x : Ans) (w : World) → InRange (poll_op q) x → unroll (Kc a (CallPoint.Poll q) x w) ≡ call_shown a (call_step_at a (CallPoint.Poll q) x w) (event_at (CallPoint.Poll q) x w) (landed_world (poll_op q) x w)
  unfolding Kc call_op call_answer poll_point
  poll-is q x w h =
      let v = landed_world (poll_op q) x w in
      let r = poll_step_at q x w in
      lifted poll_turn (turned Loop.poll_loop (past polled)) (Kp q x w) _ (device-bridge.poll-is q x w h)
      ∙ poll-next-is r.next (event_at (CallPoint.Poll q) x w) (with_state v (with_sdpcm v.st r.sdpcm)) (poll-tells q x w)

  timed-out-is : (started t : ℕ) (w : World) → timed_out started t w ≡ with_state w (timed_out_state w.st started t)
  unfolding timed_out timed_out_state
  timed-out-is started t w = by (leb 1000 (elapsed started t))
    where
      by : (b : Bool) → pick b (with_state w (with_link w.st (released w.st.link))) w ≡ with_state w (pick b (with_link w.st (released w.st.link)) w.st)
      by true = refl
      by false = refl

  -- ---- send

  pub sending-is : (h : Bool) (put : RequestPut) (n : SendNext) (e : AsyncEvent) (s : State) (w : World) → unroll (bind (send_tree (frame_out a.job) nowhere n (world s (laid_request a put w.buf) (list_heard h e w.list))) (λ u. giving Success.Done)) ≡ call_shown a (sending_next s h put n) e w
  unfolding unroll bind send_tree sending_next call_tree call_op secret_at send.send_op send.stall_op poll_op secretly asking Kc success_of laid_before laid_header laid_all list_at
  sending-is h put (SendNext.Ask p q) e s w =
      let v = world s (laid_header p (laid_request a put w.buf)) (list_heard h e w.list) in
      let op = op_in (send.send_op q) nowhere v.buf in
      let k : Ans → Prog (Unit {0}) = λ x. Ks (frame_out a.job) nowhere q x v in
      ap unroll (asking-bind op k (λ u. giving Success.Done)) ∙ unroll-asking op (λ x. bind (k x) (λ u. giving Success.Done))
  sending-is h put SendNext.Sent e s w = refl
  sending-is h put (SendNext.Refused p x) e s w = refl

  sent_is : (q : SendPoint) (x : Ans) (w : World) → InRange (send.send_op q) x → unroll (Kc a (CallPoint.Send q) x w) ≡ call_shown a (call_step_at a (CallPoint.Send q) x w) (event_at (CallPoint.Send q) x w) (landed_world (send.send_op q) x w)
  unfolding Kc call_op call_answer sending_step laid_request
  sent_is q x w h =
      let r = send_step_at (frame_out a.job) q x w in
      followed (λ u. giving Success.Done) (Ks (frame_out a.job) nowhere q x w) _ (send-bridge.send-is (frame_out a.job) nowhere q x w h)
      ∙ sending-is r.heard RequestPut.None r.next (event_at (CallPoint.Send q) x w) r.st (landed_world (send.send_op q) x w)

  -- ---- the bridge

  pub call-is : (p : CallPoint) (x : Ans) (w : World) → InRange (call_op p) x → unroll (Kc a p x w) ≡ call_shown a (call_step_at a p x w) (event_at p x w) (landed_world (call_op p) x w)
  unfolding unroll bind Kc valued call_op call_answer clock_answer tick_answer poll_tick told landing call_tree success_of laid_before laid_request laid_header laid_all list_heard list_at
  call-is (CallPoint.Exchange g q) x w h = exchange-is g q x w h
  call-is (CallPoint.Pause q) x w h = pause-is q (event_at (CallPoint.Pause q) x w) w
  call-is CallPoint.Clock (fault p) w h = refl
  call-is CallPoint.Clock (val t T) w h = settle_is t (event_at CallPoint.Clock (val t T) w) w
  call-is CallPoint.Tick (fault p) w h = refl
  call-is CallPoint.Tick (val t T) w h = refl
  call-is (CallPoint.Poll q) x w h = poll-is q x w h
  call-is (CallPoint.PollTick t) (fault p) w h = refl
  call-is (CallPoint.PollTick t) (val n T) w h =
      rw (timed-out-is t n w) (report-is (event_at (CallPoint.PollTick t) (val n T) w) (with_state w (timed_out_state w.st t n)))
  call-is (CallPoint.Send q) x w h = sent_is q x w h
