-- Every part of every call keeps a course.
use mathlib.Core.Bool.{Bool, true, false, ◌&&◌}
use Prim.Native.Nat.{ℕ, zero, suc, ◌+◌, ◌-◌, ◌%◌, min}
use native.Mathlib.Omega.{arith}
use lib.Bits.{bit_and}
use lib.Dec.{ltb, leb, eqb}
use lib.ListN.{length, drop}
use Rattle.slices.specs.Pick.{pick}
use Rattle.slices.specs.Le.{round4}
use Rattle.slices.proofs.Pick.{by-pick}
use Rattle.wlan.specs.declared.AsyncEvent.{AsyncEvent}
use Rattle.wlan.specs.declared.WifiAuth.{WifiAuth}
use Rattle.wlan.specs.declared.WifiState.{WifiState}
use Rattle.wlan.specs.declared.DriverError.{DriverError}
use Rattle.wlan.specs.declared.PendingIoctlResp.{PendingIoctlResp}
use Rattle.wlan.specs.declared.SdpcmPacket.{SdpcmPacket}
use Rattle.wlan.specs.declared.State.{State}
use Rattle.definition.specs.Bus.{Bytes, Op, Ans, fault, val, Place, nowhere}
use Rattle.definition.specs.Prog.{World, world, Note, Fin, fine, failed, Loop, ret, stop, M, ◌>>◌, raise, valued, operate, pause}
use Rattle.definition.specs.Packet.{declared}
use Rattle.definition.specs.Event.{event_of, list_after, handled}
use Rattle.definition.specs.Scan.{heard}
use Rattle.definition.specs.Request.{Request}
use Rattle.definition.specs.Device.{had_packet, pending, unreadable, landed, faulted, packet_in, read_in, got_packet, arrived, by_status, status_read, status_reads, acknowledge, interrupt_read, poll_first, poll_by, poll_device}
use Rattle.definition.specs.Send.{elapsed, free, headed, still_stalled, stall_test, stall_turn, until_free, until_ready, written, emitted, send_common}
use Rattle.definition.specs.Ioctl.{laid, numbered, is_zero, finished, reply_turn, in_time, reply, do_ioctl, exchange}
use Rattle.definition.specs.Poll.{Result, poll_turn, timed_out, disconnect_timeout, failure_report, polled, poll, body}
use Rattle.definition.specs.Join.{is_dev_error, too_long, ignoring, tried, key_laid, pmk_set, sae_set, ssid_sent, down_on_error, length_tested, joined, if_down, join}
use Rattle.definition.specs.Calls.{Call, is_interface, is_command, settled, init_sta, scan, disconnect, send, taken, gpio, mac, get, setting, variable_set, call}
use Rattle.definition.proofs.Walk.Course.{Course, Steady, Plain, answering, noting, empty, Other}
use Rattle.definition.proofs.Walk.Keeps.{BytesIn, Lawful, Gives, Free, LoopEnds, TurnEnds, FinQ, Keeps, k-ret, k-stop, k-ask, k-loop, k-note, k-bind, k-attempt, k-raise, k-pick, k-valued, k-operate, k-wait, k-pause}
use Rattle.std.specs.Prelude.{Option, Some, None, Ok, Err, ℕ}
use Rattle.wlan.specs.declared.WifiConnectFailure.{WifiConnectFailure}
use Rattle.wlan.specs.declared.PendingBuf.{PendingBuf}
use Rattle.wlan.specs.Results.{Received}
use Rattle.wlan.specs.declared.RxError.{RxError}

module _ (C : Course) (law : Steady C) where
  -- a part of a call keeps the course, and Q where it returns
  abbrev To : {A : Type 0} → (A → World → C.Acc → Type 0) → M A → Type 0
  To Q m = (w : World) (g : C.Acc) → C.Holds w g → Keeps C Q (m w) g

  abbrev Keeping : {A : Type 0} → M A → Type 0
  Keeping = To (Lawful C)

  -- a whole call, or its end
  abbrev Calling : M Result → Type 0
  Calling = To (Gives C)

  gives : {r : Result} {w : World} {g : C.Acc} → Other r.success → C.Holds w g → Keeps C (Gives C) (ret r w) g
  gives {r = r} {w = w} {g = g} i h = k-ret (law.ended r.success w g i h)

  -- ---- the device poll

  handled-keeps : (offset len : ℕ) (w : World) (g : C.Acc) → C.Holds w g → C.Holds (handled offset len w) g
  unfolding handled list_after
  handled-keeps offset len w g h = by-pick (λ x. C.Holds x g) (ltb len 48) (λ u. h) (λ u. law.changes.link _ _ g (law.changes.scan _ _ g (listed (eqb e.event_type 69) (eqb e.status 8))))
    where
      e : AsyncEvent
      e = event_of (drop offset w.buf) len

      listed : (x y : Bool) → C.Holds (world w.st w.buf (pick x (pick y (heard w.list e.scan_result) w.list) w.list)) g
      listed true true = law.changes.heard _ w g h
      listed true false = h
      listed false y = h

  packet_in-keeps : (r : Received) → Keeping (packet_in r)
  unfolding packet_in
  packet_in-keeps (Ok p) w g h = k-ret h
  packet_in-keeps (Err RxError.HeaderBeyond) w g h = k-stop h

  got_packet-keeps : (m : ℕ) (w : World) (g : C.Acc) → C.Landed m w (noting C (Note.received (declared w.buf) m) g) → Keeps C (Lawful C) (got_packet m w) g
  unfolding got_packet read_in
  got_packet-keeps m w g h =
      k-note (law.always-landed m w _ h)
      (k-pick (empty w.buf) (λ e. k-ret (law.emptied m w _ e h))
      (λ e.
      let j = law.advanced m w _ e h in
      k-note (law.always _ _ j) (packet_in-keeps _ _ _ j)))

  arrived-keeps : (m : ℕ) (x : Ans) → BytesIn x → (w : World) (g : C.Acc) → C.Holds w g → Keeps C (Lawful C) (arrived m x w) (answering C (Op.read_packet m) x g)
  unfolding arrived
  arrived-keeps m (fault p) s w g h = k-stop (law.faulted m p w g h)
  arrived-keeps m (val v T) s w g h = got_packet-keeps m _ _ (law.landed m v T w g s h)

  by_status-keeps : (s : ℕ) → Keeping (by_status s)
  unfolding by_status
  by_status-keeps s w g h =
      k-pick (eqb (bit_and s 0x100) 0) (λ e. k-ret (law.changes.mark false w g h))
      (λ e. k-pick (unreadable s) (λ u. k-bind _ (k-operate law _ tt _ _ h) (λ m v t i. k-ret (law.changes.mark false v t i))) (λ u. k-ask (law.always-read (pending s) g (law.always w g h)) (λ x y. arrived-keeps (pending s) x y w g h)))

  status_read-keeps : (more : M SdpcmPacket) (s : ℕ) → Keeping more → Keeping (status_read more s)
  unfolding status_read
  status_read-keeps more s k w g h = k-pick (eqb s 0xffffffff) (λ e. k-wait law _ w g h (λ t i. k w t i)) (λ e. by_status-keeps s w g h)

  status_reads-keeps : (k : ℕ) → Keeping (status_reads k)
  unfolding status_reads
  status_reads-keeps zero w g h = k-ret h
  status_reads-keeps (suc k) w g h = k-bind _ (k-operate law _ tt _ _ h) (λ s. status_read-keeps (status_reads k) s (status_reads-keeps k))

  interrupt_read-keeps : (v : ℕ) → Keeping (interrupt_read v)
  unfolding interrupt_read acknowledge
  interrupt_read-keeps v w g h =
      k-bind {P = Lawful C} _ (k-pick (eqb v 0) (λ e. k-ret h) (λ e. k-bind _ (k-operate law _ tt _ _ h) (λ m u t i. k-ret i)))
      (λ u w t h. k-pick (eqb (bit_and v 0x20) 0) (λ e. k-ret h) (λ e. status_reads-keeps 1000 w t h))

  poll_by-keeps : (x : Ans) → Keeping (poll_by x)
  unfolding poll_by
  poll_by-keeps x w g h =
      k-pick (had_packet w.st) (λ e. k-bind _ (k-valued x _ _ h) (λ s. status_read-keeps (status_reads 999) s (status_reads-keeps 999)))
      (λ e. k-bind _ (k-valued x _ _ h) interrupt_read-keeps)

  pub first_plain : (s : State) → Plain (poll_first s)
  first_plain s = by-pick Plain (had_packet s) (λ e. tt) (λ e. tt)

  poll_device-keeps : Keeping poll_device
  unfolding poll_device
  poll_device-keeps w g h = k-ask (law.always-plain _ g (first_plain w.st) (law.always w g h)) (λ x s. poll_by-keeps x w _ (law.plain _ x w g (first_plain w.st) h))

  -- ---- sending

  stall_test-keeps : (t0 : ℕ) → To (TurnEnds C (Loop.stall_loop t0)) (stall_test t0)
  unfolding stall_test still_stalled
  stall_test-keeps t0 w g h =
      k-pick (free w.st) (λ e. k-ret (h, e))
      (λ e. k-bind {P = Lawful C} _ (k-operate law _ tt _ _ h) (λ t v j i. k-pick (ltb 1000000 (elapsed t0 t)) (λ e. k-stop i) (λ e. k-wait law _ v j i (λ t i. k-ret i))))

  stall_turn-keeps : (t0 : ℕ) (p : SdpcmPacket) → To (TurnEnds C (Loop.stall_loop t0)) (stall_turn t0 p)
  unfolding stall_turn
  stall_turn-keeps t0 SdpcmPacket.None w g h = stall_test-keeps t0 w g h
  stall_turn-keeps t0 (SdpcmPacket.Control o l s) w g h = k-ret (law.changes.pending _ w g h)
  stall_turn-keeps t0 (SdpcmPacket.AsyncEvent o l) w g h = stall_test-keeps t0 _ g (handled-keeps o l w g h)
  stall_turn-keeps t0 (SdpcmPacket.Data o l i) w g h = stall_test-keeps t0 w g h

  until_free-keeps : To (Free C) until_free
  unfolding until_free
  until_free-keeps w g h = k-pick (free w.st) (λ e. k-ret (h, e)) (λ e. k-bind {P = Lawful C} _ (k-operate law _ tt _ _ h) (λ t v j i. k-loop i (λ r u t j. k-raise {Q = Free C} r _ _ j)))

  -- a number is spent
  abbrev Owes : ℕ → {A : Type 0} → A → World → C.Acc → Type 0
  Owes size a w g = C.Owing size w g

  ready-keeps : (size : ℕ) (w : World) (g : C.Acc) → C.Owing size w g → Keeps C (Owes size) (operate Op.read_status w) g
  unfolding operate valued
  ready-keeps size w g h = k-ask (law.always-plain Op.read_status g tt (law.always-owing size w g h)) (λ x u. by x)
    where
      by : (x : Ans) → Keeps C (Owes size) (valued x w) (answering C Op.read_status x g)
      by (fault p) = k-stop (law.unwritten size w _ (law.ready size (fault p) w g h))
      by (val n b) = k-ret (law.ready size (val n b) w g h)

  until_ready-keeps : (size k : ℕ) (w : World) (g : C.Acc) → C.Owing size w g → Keeps C (Owes size) (until_ready k w) g
  unfolding until_ready
  until_ready-keeps size zero w g h = k-stop (law.unwritten size w g h)
  until_ready-keeps size (suc k) w g h = k-bind {P = Owes size} _ (ready-keeps size w g h) (λ s v t i. k-pick (eqb (bit_and s 0x20) 0) (λ e. until_ready-keeps size k v t i) (λ e. k-ret i))

  emitted-keeps : (size : ℕ) (secret : Place) (w : World) (g : C.Acc) → C.Owing size w g → Keeps C (Lawful C) (emitted size secret w) g
  unfolding emitted written operate
  emitted-keeps size secret w g h =
      k-pick (ltb 2040 (round4 size)) (λ e. k-stop (law.unwritten size w g h))
      (λ e. k-bind {P = Owes size} _ (until_ready-keeps size 1000 w g h)
      (λ u v t i. k-bind {P = Lawful C} _ (k-ask (law.always-write size _ secret v t i) (λ x y. k-valued x v _ (law.written size secret x v t i))) (λ m x t j. k-ret j)))

  send_common-keeps : (channel len : ℕ) (secret : Place) → Keeping (send_common channel len secret)
  unfolding send_common
  send_common-keeps channel len secret w g h =
      k-bind {P = Free C} _ (until_free-keeps w g h)
      (λ u v t i.
      let j = law.spent channel (12 + len) v t i.1 i.0 in
      k-note (law.always-owing _ _ _ j) (emitted-keeps (12 + len) secret (headed channel (12 + len) v) _ j))

  -- ---- requests

  finished-keeps : (len : ℕ) (r : PendingIoctlResp) → Keeping (finished len r)
  unfolding finished
  finished-keeps len r w g h =
      k-pick (is_zero r.status) (λ e. k-pick (ltb 2048 (r.buf.offset + min len r.buf.len)) (λ u. k-stop h) (λ u. k-ret (law.changes.laid 28 _ w g (omega arith) h))) (λ e. k-stop h)

  reply_turn-keeps : (t0 : ℕ) (p : SdpcmPacket) → To (TurnEnds C (Loop.reply_loop t0)) (reply_turn p)
  unfolding reply_turn
  reply_turn-keeps t0 SdpcmPacket.None w g h = k-wait law _ w g h (λ t i. k-ret i)
  reply_turn-keeps t0 (SdpcmPacket.Control o l s) w g h = k-ret h
  reply_turn-keeps t0 (SdpcmPacket.AsyncEvent o l) w g h = k-wait law _ w g h (λ t i. k-ret (handled-keeps o l w t i))
  reply_turn-keeps t0 (SdpcmPacket.Data o l i) w g h = k-wait law _ w g h (λ t i. k-ret i)

  in_time-keeps : (t0 t : ℕ) → To (TurnEnds C (Loop.reply_loop t0)) (in_time t0 t)
  unfolding in_time
  in_time-keeps t0 t w g h = k-pick (ltb (elapsed t0 t) 500000) (λ e. k-bind _ (poll_device-keeps w g h) (reply_turn-keeps t0)) (λ e. k-stop h)

  reply-keeps : (r : Option PendingIoctlResp) → Keeping (reply r)
  unfolding reply
  reply-keeps None w g h = k-bind {P = Lawful C} _ (k-operate law _ tt _ _ h) (λ t v j i. k-loop i (λ r u t j. k-raise {Q = Lawful C} r _ _ j))
  reply-keeps (Some r) w g h = k-ret (law.changes.pending _ w g h)

  do_ioctl-keeps : (r : Request) → Keeping (do_ioctl r)
  unfolding do_ioctl numbered
  do_ioctl-keeps r w g h =
      k-bind {P = Lawful C} _ (send_common-keeps 0 _ _ _ g (law.changes.id _ _ g (law.changes.laid 12 _ w g (omega arith) h)))
      (λ u v t i. k-bind _ (reply-keeps v.st.pending.ioctl_resp v t i) (finished-keeps (length r.payload)))

  exchange-keeps : (r : Request) → Keeping (exchange r)
  unfolding exchange laid
  exchange-keeps r w g h = do_ioctl-keeps r _ g (law.changes.laid 28 _ w g (omega arith) h)

  -- ---- poll, and the loops' turns

  poll_turn-keeps : (p : SdpcmPacket) → To (TurnEnds C Loop.poll_loop) (poll_turn p)
  unfolding poll_turn
  poll_turn-keeps SdpcmPacket.None w g h = k-ret h
  poll_turn-keeps (SdpcmPacket.Control o l s) w g h = k-ret (law.changes.pending _ w g h)
  poll_turn-keeps (SdpcmPacket.AsyncEvent o l) w g h = k-ret (handled-keeps o l w g h)
  poll_turn-keeps (SdpcmPacket.Data o l i) w g h = k-pick (ltb l 14) (λ e. k-ret h) (λ e. k-ret (law.reporting o l w g e h))

  disconnect_timeout-keeps : (s : WifiState) (t : Option ℕ) → Keeping (disconnect_timeout s t)
  unfolding disconnect_timeout timed_out
  disconnect_timeout-keeps WifiState.Down t w g h = k-ret h
  disconnect_timeout-keeps WifiState.Connecting t w g h = k-ret h
  disconnect_timeout-keeps WifiState.Connected t w g h = k-ret h
  disconnect_timeout-keeps WifiState.Disconnecting None w g h = k-ret h
  disconnect_timeout-keeps WifiState.Disconnecting (Some t) w g h = k-bind _ (k-operate law _ tt _ _ h) (λ m v j i. k-ret (by-pick (λ x. C.Holds x j) (leb 1000 (elapsed t m)) (λ e. law.changes.link _ v j i) (λ e. i)))

  failure_report-keeps : (s : WifiState) (f : Option WifiConnectFailure) → Calling (failure_report s f)
  unfolding failure_report
  failure_report-keeps WifiState.Down None w g h = gives tt h
  failure_report-keeps WifiState.Down (Some f) w g h = gives tt (law.changes.link _ w g h)
  failure_report-keeps WifiState.Connecting f w g h = gives tt h
  failure_report-keeps WifiState.Connected f w g h = gives tt h
  failure_report-keeps WifiState.Disconnecting f w g h = gives tt h

  polled-keeps : (b : Bool) (w : World) (g : C.Acc) → LoopEnds C Loop.poll_loop b w g → Keeps C (Gives C) (polled b w) g
  unfolding polled
  polled-keeps true w g h = k-ret (law.reported w g h)
  polled-keeps false w g h =
      k-bind _ (disconnect_timeout-keeps w.st.link.state w.st.link.disconnect_started_tick w g h)
      (λ u v t i. failure_report-keeps v.st.link.state v.st.link.connect_failure v t i)

  poll-keeps : Calling poll
  unfolding poll
  poll-keeps w g h = k-bind {P = LoopEnds C Loop.poll_loop} polled (k-loop {l = Loop.poll_loop} {w = w} {k = raise} h (λ r v t i. k-raise {Q = LoopEnds C Loop.poll_loop} r v t i)) polled-keeps

  pub body-keeps : (l : Loop) (x : Ans) → To (TurnEnds C l) (body l x)
  unfolding body
  body-keeps (Loop.stall_loop t0) x w g h = k-bind _ (poll_by-keeps x w g h) (stall_turn-keeps t0)
  body-keeps (Loop.reply_loop t0) x w g h = k-bind _ (k-valued x _ _ h) (in_time-keeps t0)
  body-keeps Loop.poll_loop x w g h = k-bind _ (poll_by-keeps x w g h) poll_turn-keeps

  -- ---- join

  ignoring-keeps : (r : Fin (Unit {0})) (w : World) (g : C.Acc) → FinQ C (Lawful C) r w g → Keeps C (Lawful C) (ignoring r w) g
  unfolding ignoring
  ignoring-keeps (fine u) w g h = k-ret h
  ignoring-keeps (failed e) w g h = k-pick (is_dev_error e) (λ u. k-ret h) (λ u. k-stop h)

  tried-keeps : (r : Request) → Keeping (tried r)
  unfolding tried
  tried-keeps r w g h = k-bind _ (k-attempt (exchange-keeps r w g h)) ignoring-keeps

  key_laid-keeps : (r : Request) → Keeping (key_laid r)
  unfolding key_laid laid
  key_laid-keeps r w g h =
      let i = law.keyed w g h in
      k-note (law.always _ _ i) (k-ret (law.changes.laid 28 _ w _ (omega arith) i))

  pmk_set-keeps : (b : Bool) (p : Bytes) → Keeping (pmk_set b p)
  unfolding pmk_set
  pmk_set-keeps true p w g h = k-bind _ (key_laid-keeps _ w g h) (λ u v t i. k-bind _ (k-pause law _ _ _ i) (λ u. do_ioctl-keeps _))
  pmk_set-keeps false p w g h = k-ret h

  sae_set-keeps : (b : Bool) (p : Bytes) → Keeping (sae_set b p)
  unfolding sae_set
  sae_set-keeps true p w g h = k-bind _ (k-pause law _ _ _ h) (λ u v t i. k-bind _ (key_laid-keeps _ v t i) (λ u. do_ioctl-keeps _))
  sae_set-keeps false p w g h = k-ret h

  ssid_sent-keeps : (s : Bytes) → Keeping (ssid_sent s)
  unfolding ssid_sent
  ssid_sent-keeps s w g h = k-pick (ltb 32 (length s)) (λ e. k-stop h) (λ e. exchange-keeps _ w g h)

  down_on_error-keeps : (r : Fin (Unit {0})) (w : World) (g : C.Acc) → FinQ C (Lawful C) r w g → Keeps C (Gives C) (down_on_error r w) g
  unfolding down_on_error
  down_on_error-keeps (fine u) w g h = gives tt h
  down_on_error-keeps (failed e) w g h = k-pick (is_dev_error e) (λ u. k-stop (law.changes.link _ w g h)) (λ u. k-stop h)

  length_tested-keeps : (a : WifiAuth) (m : ℕ) → Keeping (length_tested a m)
  unfolding length_tested
  length_tested-keeps a m w g h = k-pick (too_long a m) (λ e. k-stop h) (λ e. k-ret h)

  -- one request after another
  then : {A : Type 0} {Q : A → World → C.Acc → Type 0} (r : Request) (k : M A) → To Q k → To Q (exchange r >> k)
  then r k c w g h = k-bind _ (exchange-keeps r w g h) (λ u. c)

  trying : {A : Type 0} {Q : A → World → C.Acc → Type 0} (r : Request) (k : M A) → To Q k → To Q (tried r >> k)
  trying r k c w g h = k-bind _ (tried-keeps r w g h) (λ u. c)

  waiting : {A : Type 0} {Q : A → World → C.Acc → Type 0} (ns : ℕ) (k : M A) → To Q k → To Q (pause ns >> k)
  waiting ns k c w g h = k-bind _ (k-pause law _ _ _ h) (λ u. c)

  joined_keeps : (a : WifiAuth) (ssid passphrase : Bytes) → Calling (joined a ssid passphrase)
  unfolding joined
  joined_keeps a ssid passphrase =
      then _ _
      (λ w g h. k-bind _ (length_tested-keeps a (length passphrase) w g h)
      (λ u. then _ _
      (then _ _
      (then _ _
      (trying _ _
      (λ w g h. k-bind _ (pmk_set-keeps _ passphrase w g h)
      (λ u w g h. k-bind _ (sae_set-keeps _ passphrase w g h)
      (λ u. then _ _
      (then _ _ (then _ _ (then _ _ (λ w g h. k-bind _ (k-attempt (ssid_sent-keeps ssid _ g (law.changes.link _ w g h))) down_on_error-keeps))))))))))))

  if_down-keeps : (m : M Result) (s : WifiState) → Calling m → Calling (if_down m s)
  unfolding if_down
  if_down-keeps m WifiState.Down k w g h = k w g h
  if_down-keeps m WifiState.Connecting k w g h = k-stop h
  if_down-keeps m WifiState.Connected k w g h = k-stop h
  if_down-keeps m WifiState.Disconnecting k w g h = k-stop h

  -- ---- the calls

  settled-keeps : (t : ℕ) → Keeping (settled t)
  unfolding settled
  settled-keeps t w g h = k-pick (ltb (elapsed 0 t % 4294967296) 150000) (λ e. k-pause law _ _ _ h) (λ e. k-ret h)

  init_sta-keeps : (c : ℕ) → Calling (init_sta c)
  unfolding init_sta
  init_sta-keeps c =
      then _ _
      (waiting _ _
      (then _ _
      (trying _ _
      (trying _ _
      (trying _ _
      (trying _ _
      (trying _ _
      (λ w g h. k-bind {P = Lawful C} _ (k-bind _ (k-operate law _ tt _ _ h) settled-keeps)
      (λ u. then _ _ (waiting _ _ (then _ _ (waiting _ _ (λ v t i. gives tt i)))))))))))))

  taken-keeps : (m : ℕ) (f : Option PendingBuf) → Calling (taken m f)
  unfolding taken
  taken-keeps m None w g h = k-stop h
  taken-keeps m (Some f) w g h =
      k-pick (ltb m f.len) (λ e. k-stop (law.changes.pending _ w g h))
      (λ e. k-pick (ltb 2048 (f.offset + f.len)) (λ u. k-stop (law.changes.pending _ w g h)) (λ u. gives tt (law.changes.pending _ w g h)))

  disconnect-keeps : Calling disconnect
  unfolding disconnect
  disconnect-keeps = then _ _ (λ w g h. k-bind _ (k-operate law _ tt _ _ h) (λ t v j i. gives tt (law.changes.link _ v j i)))

  -- arguments are tested, then a request is exchanged
  tested : (b : Bool) (r : Request) (k : M Result) (w : World) (g : C.Acc) → C.Holds w g → Calling k → Keeps C (Gives C) (pick b ((exchange r >> k) w) (stop DriverError.InvalidArg w)) g
  tested b r k w g h c = k-pick b (λ e. then r k c w g h) (λ e. k-stop h)

  pub call-keeps : (c : Call) → Calling (call c)
  unfolding call scan join send gpio mac get setting variable_set
  call-keeps (Call.wifi_init c) w g h = init_sta-keeps c w g h
  call-keeps Call.wifi_scan w g h = k-pick w.st.scan.scan_in_progress (λ e. gives tt h) (λ e. then _ _ (λ v t i. gives tt (law.changes.scan _ _ t (law.changes.cleared v t i))) w g h)
  call-keeps (Call.wifi_connect a s p) w g h = k-pick (ltb a 6) (λ e. if_down-keeps _ w.st.link.state (λ v t i. joined_keeps _ s p _ t (law.changes.link _ v t i)) w g h) (λ e. k-stop h)
  call-keeps Call.wifi_disconnect w g h = disconnect-keeps w g h
  call-keeps Call.wifi_abort_connect w g h = disconnect-keeps w g h
  call-keeps Call.wifi_poll w g h = poll-keeps w g h
  call-keeps (Call.send_data i f) w g h =
      k-pick (is_interface i && leb (length f) 2030) (λ e. k-bind _ (send_common-keeps 2 _ nowhere _ g (law.changes.laid 12 _ w g (omega arith) h)) (λ u v t j. gives tt j)) (λ e. k-stop h)
  call-keeps (Call.get_rx_buf m) w g h = taken-keeps m w.st.pending.rx w g h
  call-keeps (Call.gpio_set p l) w g h = tested (ltb p 3) _ _ w g h (λ v t i. gives tt i)
  call-keeps Call.get_mac_addr w g h = then _ _ (λ v t i. gives tt i) w g h
  call-keeps (Call.get_ioctl c i) w g h = tested (is_command c && is_interface i) _ _ w g h (λ v t j. gives tt j)
  call-keeps (Call.set_ioctl c v i) w g h = tested (is_command c && is_interface i) _ _ w g h (λ u t j. gives tt j)
  call-keeps (Call.write_iovar i a b) w g h = tested (is_interface i && leb (length a + 1 + length b) 2020) _ _ w g h (λ v t j. gives tt j)
  call-keeps Call.up w g h = then _ _ (λ v t i. gives tt i) w g h
