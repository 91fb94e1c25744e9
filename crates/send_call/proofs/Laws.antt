-- A send's step on a session's bytes is the tree's.
use Prim.Native.Nat.{ℕ, ◌+◌, ◌-◌, ◌%◌, ◌<◌, ◌≤◌, min}
use mathlib.Core.Path.{◌≡◌, refl, sym, ap, ◌∙◌}
use mathlib.Core.Bool.{Bool, true, false}
use mathlib.Core.List.{List, []}
use native.Mathlib.Omega.{arith}
use lib.Bits.{bit_and}
use lib.Dec.{eqb}
use lib.ListN.{length, drop}
use borrow.Author.Tests.{le-ltb}
use Rattle.slices.specs.Pick.{pick}
use Rattle.slices.specs.Over.{over}
use Rattle.slices.specs.Le.{round4}
use Rattle.wlan.specs.declared.AsyncEvent.{AsyncEvent}
use Rattle.wlan.specs.declared.BusOp.{BusOp}
use Rattle.wlan.specs.declared.DriverError.{DriverError}
use Rattle.wlan.specs.declared.State.{State}
use Rattle.wlan.specs.declared.Success.{Success}
use Rattle.definition.specs.Bus.{Bytes, Ans, Place, fault, val}
use Rattle.definition.specs.Event.{event_of}
use Rattle.definition.specs.Packet.{header, data_part}
use Rattle.definition.specs.Send.{free}
use Rattle.definition.specs.Prog.{World, world, Prog, stop}
use Rattle.definition.specs.Poll.{Result}
use Rattle.definition.specs.Run.{End}
use Rattle.handling.specs.Handle.{list_heard}
use Rattle.device.specs.declared.Arrival.{Arrival}
use Rattle.device.specs.Meaning.{op_in, asking, told, landing, InRange, arrival_at}
use Rattle.send.specs.declared.OutPacket.{OutPacket}
use Rattle.send.specs.declared.SendNext.{SendNext}
use Rattle.send.specs.declared.SendPoint.{SendPoint}
use Rattle.send.specs.declared.SendStep.{SendStep}
use Rattle.send.specs.Send as send
use Rattle.send.specs.Meaning.{laid_header}
use Rattle.control.specs.declared.CallNext.{CallNext}
use Rattle.control.specs.declared.CallPoint.{CallPoint}
use Rattle.control.specs.declared.Ending.{Ending}
use Rattle.control.specs.declared.RequestPut.{RequestPut}
use Rattle.control.specs.Begin.{call_answer, frame_out, sending_next, sending_step}
use Rattle.control.specs.Steps.{call_op}
use Rattle.control.specs.Meaning.{Args, call_tree, call_shown, Kc, laid_all, laid_before, laid_request, list_at, success_of}
use Rattle.control.proofs.Bridge.{call-is}
use Rattle.effects.specs.Answer.{is_wait}
use Rattle.session_bytes.specs.Session.{is_session, session_in, with_state}
use Rattle.places.specs.Places.{Holds}
use Rattle.going.specs.Onward.{go}
use Rattle.going.proofs.Going.{go-unroll}
use Rattle.undo.specs.Undo.{Kept, kept_of, back_session, back_buf}
use Rattle.undo.proofs.Laws.{buf-changed}
use Rattle.undo.proofs.Parts.{drop-over-past}
use Rattle.asking.specs.declared.Asked.{Asked}
use Rattle.asking.specs.declared.Back.{Back}
use Rattle.asking.specs.Asking.{Asks}
use Rattle.send_points.specs.declared.SendAt.{SendAt}
use Rattle.send_points.specs.declared.SendNow.{SendNow}
use Rattle.send_points.specs.declared.SentKind.{SentKind}
use Rattle.send_points.specs.SendPoints.{header_in, next_by}
use Rattle.sending.specs.Sending.{listed, Covered, Sends}
use Rattle.sending.proofs.Laws.{faulted}
use Rattle.run_end.specs.RunEnd as ending
use Rattle.turning.specs.Turning as turning
use Rattle.turning.proofs.Laws as law
use Rattle.run_end.specs.declared.RunEnd.{RunEnd}
use Rattle.send_call.specs.declared.SendTurned.{SendTurned}
use Rattle.send_call.specs.SendCall as to
use Rattle.std.specs.Prelude.{Option, Ok, Err}
use Rattle.send.specs.declared.Header.{Header}
use Rattle.wlan.specs.Results.{fault_at}

-- ---- the frame

length-data : (i : ℕ) (frame : Bytes) → length (data_part i frame) ≡ 6 + length frame
unfolding data_part
length-data i frame = omega arith

-- it is laid where the bytes are kept
pub frame-covered : {u v : List ℕ} {c f : Bytes} (i : ℕ) (frame : Bytes) → length frame ≤ 2030 → Kept v → min (18 + length frame) 2048 ≤ kept_of v → ((s : List ℕ) → back_session v s ≡ back_session u s)
    → back_buf v c ≡ back_buf u c → length c ≡ 2048 → length f ≡ 2048 → f ≡ over c 12 (data_part i frame) → Covered u v c f
frame-covered {u} {v} {c} {f} i frame z k m s e hc hf l =
    let q : 12 + length (data_part i frame) ≤ kept_of v = omega (arith, length-data i frame) in
    let g : drop (kept_of v) f ≡ drop (kept_of v) c = ap (λ (t : Bytes). drop (kept_of v) t) l ∙ drop-over-past (kept_of v) c 12 (data_part i frame) q in
    record { kept = k; session = s; buf = buf-changed f c k hf hc g ∙ e }

-- ---- the end

pub sent-ends : (frame : Bytes) (e : World) (ws log b : List ℕ) (buf : Bytes) (len : ℕ) → turning.Ends e (go e ws log len (call_tree (to.args_in frame) (CallNext.Ended Ending.Done) (turning.world_in b buf))) (ending.end_by (Ok Success.Done) len) log b buf
unfolding call_tree success_of
sent-ends frame e ws log b buf len = law.returned e _ ws log b buf len refl tt

-- ---- the bridge

-- what a send's step comes to, for the call
unfoldable next_in : SendNext → CallNext
next_in (SendNext.Ask h q) = CallNext.Ask (CallPoint.Send q)
next_in SendNext.Sent = CallNext.Ended Ending.Done
next_in (SendNext.Refused h e) = CallNext.Refused e

next-is : (k : SentKind) (r : SendNow) (h : Option Header) {n : SendNext} → next_by k r h ≡ n → to.call_by k r ≡ next_in n
unfolding next_by next_in to.call_by
next-is SentKind.Ask r h e = rw (← e) refl
next-is SentKind.Sent r h e = rw (← e) refl
next-is SentKind.Refused r h e = rw (← e) refl

-- a wait has no fault
not-wait : (op : BusOp) (y : Ans) (v : ℕ) → InRange op y → Err (fault_at v) ≡ told y → is_wait op ≡ false
unfolding is_wait InRange told
not-wait BusOp.ReadInterrupt y v i h = refl
not-wait BusOp.ReadStatus y v i h = refl
not-wait (BusOp.ReadPacket n) y v i h = refl
not-wait BusOp.ReadClock y v i h = refl
not-wait BusOp.ReadTick y v i h = refl
not-wait (BusOp.WritePacket n) y v i h = refl
not-wait (BusOp.WriteInterrupt n) y v i h = refl
not-wait BusOp.FrameControl y v i h = refl
not-wait (BusOp.Wait ns) (fault p) v i h = absurd i
not-wait (BusOp.Wait ns) (val n T) v i h = absurd (let z : ◌≡◌ {A = ℕ} 0 1 = cc in omega arith)

module _ (frame : Bytes) where
  abbrev a : Args
  a = to.args_in frame

  shown_by : (st : State) (heard : Bool) (put : RequestPut) (n : SendNext) (x : AsyncEvent) (w : World)
      → call_tree a (next_in n) (world st (laid_header (header_in n) (laid_request a put w.buf)) (list_heard heard x w.list)) ≡ call_shown a (sending_next st heard put n) x w
  unfolding sending_next next_in header_in laid_all laid_before list_at laid_header
  shown_by st heard put (SendNext.Ask h q) x w = refl
  shown_by st heard put SendNext.Sent x w = refl
  shown_by st heard put (SendNext.Refused h e) x w = refl

  -- b and d: the session's bytes before and after the step; c and f: the work buffer
  shown-step : (b d : List ℕ) {c f : Bytes} {n : CallNext} (x : AsyncEvent) (s : SendStep) (put : RequestPut) (b₀ : Bytes) → c ≡ laid_request a put b₀ → n ≡ next_in s.next → f ≡ laid_header (header_in s.next) c → session_in d ≡ listed b x s
      → call_tree a n (turning.world_in d f) ≡ call_shown a (sending_step s put) x (turning.world_in b b₀)
  unfolding sending_step
  shown-step b d x s put b₀ hc hn hf hd = rw (hn, hf, hc, hd) (shown_by s.st s.heard put s.next x (turning.world_in b b₀))

  stepped : {u v b d : List ℕ} {c f : Bytes} {r : SendNow} {x : AsyncEvent} {s : SendStep} (put : RequestPut) (b₀ : Bytes) → c ≡ laid_request a put b₀ → Sends u v b d c f r x s
      → call_tree a (to.call_now r) (turning.world_in d f) ≡ call_shown a (sending_step s put) x (turning.world_in b b₀)
  stepped {b = b} {d = d} {r = r} {x = x} {s = s} put b₀ hc k = shown-step b d x s put b₀ hc (next-is r.kind r (header_in s.next) k.next) k.laid k.held.back

  abbrev out : OutPacket
  out = frame_out a.job

  pub send-starts : {u v b d : List ℕ} {c f : Bytes} {r : SendNow} (interface : ℕ) (b₀ : Bytes) → c ≡ over b₀ 12 (data_part interface frame) → Sends u v b d c f r (event_of [] 0) (send.start_step (session_in b).st out)
      → call_tree a (to.call_now r) (turning.world_in d f) ≡ call_shown a (to.start_in interface frame b) (event_of [] 0) (turning.world_in b b₀)
  unfolding laid_request
  send-starts interface b₀ hc k = stepped (RequestPut.Data interface) b₀ hc k

  -- the credit is there, and the packet is not too long
  free-start : (st : State) → free st ≡ true → length frame ≤ 2022
      → send.start_step st out ≡ send.step (send.spending st) false (SendNext.Ask (send.put_of st out) (SendPoint.Ready 999 (round4 (18 + length frame))))
  unfolding send.start_step send.emit_step
  free-start st h m = simp (h, le-ltb 2040 (round4 (18 + length frame)) (omega arith))

  -- seq: the sequence number that is spent
  pub free-starts : (b d : List ℕ) {f : Bytes} (interface seq : ℕ) (b₀ : Bytes) → free (session_in b).st ≡ true → length frame ≤ 2022 → seq ≡ (session_in b).st.sdpcm.packet_tx_seq → Holds d (with_state b (send.spending (session_in b).st))
      → f ≡ over (over b₀ 12 (data_part interface frame)) 0 (header (18 + length frame) seq 2)
      → call_tree a (to.asks_of (SendPoint.Ready 999 (round4 (18 + length frame)))) (turning.world_in d f) ≡ call_shown a (to.start_in interface frame b) (event_of [] 0) (turning.world_in b b₀)
  unfolding laid_request laid_header header_in next_in list_heard
  free-starts b d interface seq b₀ h m hs hd hf =
      let st = (session_in b).st in
      rw (free-start st h m) (shown-step b d (event_of [] 0) (send.step (send.spending st) false (SendNext.Ask (send.put_of st out) (SendPoint.Ready 999 (round4 (18 + length frame))))) (RequestPut.Data interface) b₀ refl refl (rw hs at hf) hd.back)

  module _ (m : length frame ≤ 2030) (q : SendPoint) (y : Ans) (b₀ buf : Bytes) (i : InRange (send.send_op q) y) (hb : buf ≡ landing (send.send_op q) y b₀) (e : World) (ws log : List ℕ) (len : ℕ) where
    abbrev arrived : State → Arrival
    arrived st = arrival_at (send.send_op q) buf st.sdpcm

    send-tree : (b : List ℕ) (s : SendStep) → s ≡ send.send_answer (session_in b).st out q (told y) (arrived (session_in b).st)
        → go e ws log len (call_shown a (sending_step s RequestPut.None) (arrived (session_in b).st).event (turning.world_in b buf)) ≡ go e ws log len (Kc a (CallPoint.Send q) y (turning.world_in b b₀))
    unfolding call_op call_answer
    send-tree b s hs =
        ap (λ t. go e ws log len t) (rw (hs, hb) (sym (call-is a (omega arith) (CallPoint.Send q) y (turning.world_in b b₀) i)))
        ∙ go-unroll e ws log len (Kc a (CallPoint.Send q) y (turning.world_in b b₀))

    pub send-steps : {u w b d : List ℕ} {f : Bytes} {r : SendNow} (v : ℕ) → Ok v ≡ told y
        → Sends u w b d buf f r (arrived (session_in b).st).event (send.send_answer (session_in b).st out q (Ok v) (arrived (session_in b).st))
        → go e ws log len (call_tree a (to.call_now r) (turning.world_in d f)) ≡ go e ws log len (Kc a (CallPoint.Send q) y (turning.world_in b b₀))
    unfolding laid_request
    send-steps {b = b} v hv k =
        ap (λ t. go e ws log len t) (stepped RequestPut.None buf refl k)
        ∙ send-tree b (send.send_answer (session_in b).st out q (Ok v) (arrived (session_in b).st)) (rw hv refl)

    -- 7
    pub send-faults : (b : List ℕ) (v : ℕ) → Err (fault_at v) ≡ told y → go e ws log len (stop (DriverError.Fault v) (turning.world_in b buf)) ≡ go e ws log len (Kc a (CallPoint.Send q) y (turning.world_in b b₀))
    unfolding call_tree sending_step sending_next laid_all laid_before laid_request laid_header list_at list_heard
    send-faults b v hv =
        send-tree b (send.refuses (session_in b).st (DriverError.Fault v)) (rw (← hv) (sym (faulted (session_in b).st out q v (arrived (session_in b).st) (not-wait (send.send_op q) y v i hv))))

    pub ready-goes : (left n : ℕ) → q ≡ SendPoint.Ready left n → (b : List ℕ) (v : ℕ) → Ok v ≡ told y → eqb (bit_and (v % 4294967296) 0x20) 0 ≡ false
        → go e ws log len (call_tree a (to.asks_of (SendPoint.Writing n)) (turning.world_in b buf)) ≡ go e ws log len (Kc a (CallPoint.Send q) y (turning.world_in b b₀))
    unfolding sending_step sending_next laid_all laid_before laid_request laid_header list_at list_heard send.send_answer send.at_ready send.ready_step
    ready-goes left n hq b v hv h =
        send-tree b (send.asks (session_in b).st false (SendPoint.Writing n)) (rw (← hv, hq, h) refl)

    pub write-ends : (n : ℕ) → q ≡ SendPoint.Writing n → (b : List ℕ) (v : ℕ) → Ok v ≡ told y
        → turning.Ends e (go e ws log len (Kc a (CallPoint.Send q) y (turning.world_in b b₀))) (ending.end_by (Ok Success.Done) len) log b buf
    unfolding sending_step sending_next laid_all laid_before laid_request laid_header list_at list_heard send.send_answer send.at_writing
    write-ends n hq b v hv =
        rw (← send-tree b (send.step (session_in b).st false SendNext.Sent) (rw (← hv, hq) refl)) (sent-ends frame e ws log b buf len)

-- ---- a turn

pub over-turns : (frame : Bytes) (e : World) (x : End) (rec log b : List ℕ) (buf : Bytes) (r : SendTurned) {end : RunEnd} → r.on ≡ false → r.end ≡ end → turning.Ends e x end log b buf → to.Turns frame e x rec r log b buf
over-turns frame e x rec log b buf r h k s = rw (h, k) s

pub on-turns : (frame : Bytes) (e : World) (rec log b : List ℕ) (buf : Bytes) (r : SendTurned) (p : SendAt) (pos len : ℕ) → r.on ≡ true → r.at ≡ p → r.pos ≡ pos → r.end.len ≡ len
    → to.Turns frame e (go e (drop pos rec) log len (call_tree (to.args_in frame) (to.asks_at p) (turning.world_in b buf))) rec r log b buf
on-turns frame e rec log b buf r p pos len h a i l = rw (h, a, i, l) refl

pub turns-by : (frame : Bytes) (e : World) {x y : End} (rec log b : List ℕ) (buf : Bytes) (r : SendTurned) → x ≡ y → to.Turns frame e x rec r log b buf → to.Turns frame e y rec r log b buf
turns-by frame e rec log b buf r h t = rw (← h) t

-- after an operation that was answered with a value
pub valued-turns : (frame : Bytes) (op : BusOp) {rec log log' : List ℕ} {pos len : ℕ} {b c : Bytes} (x : Asked) (h : Asks op rec log log' pos len b c x) (e : World) (s : Place) (k : Ans → Prog Result) (r : SendTurned) (d : List ℕ) (f : Bytes)
    → x.back ≡ Back.No → x.fault ≡ false
    → ((y : Ans) → Ok x.value ≡ told y → InRange op y → c ≡ landing op y b → to.Turns frame e (go e (drop x.pos rec) log' x.len (k y)) rec r log' d f)
    → to.Turns frame e (go e (drop pos rec) log len (asking (op_in op s b) k)) rec r log' d f
valued-turns frame op {rec} {log} {log'} x h e s k r d f n g t = law.asked-value op x h e s k d (λ (o : End). to.Turns frame e o rec r log' d f) n g t

-- x: what the run came to
pub ends_by : {e : World} {x y : End} {r : RunEnd} {l b : List ℕ} {buf : Bytes} → x ≡ y → turning.Ends e x r l b buf → turning.Ends e y r l b buf
ends_by h t = rw (← h) t

pub valued-ends : (op : BusOp) {rec log log' : List ℕ} {pos len : ℕ} {b c : Bytes} (x : Asked) (h : Asks op rec log log' pos len b c x) (e : World) (s : Place) (k : Ans → Prog Result) {r : RunEnd} {l d : List ℕ} {f : Bytes}
    → x.back ≡ Back.No → x.fault ≡ false
    → ((y : Ans) → Ok x.value ≡ told y → InRange op y → c ≡ landing op y b → turning.Ends e (go e (drop x.pos rec) log' x.len (k y)) r l d f)
    → turning.Ends e (go e (drop pos rec) log len (asking (op_in op s b) k)) r l d f
valued-ends op x h e s k {r} {l} {d} {f} n g t = law.asked-value op x h e s k d (λ (o : End). turning.Ends e o r l d f) n g t

-- ---- the loop

-- s, u, b: session, what is kept and work buffer, before the loop and now
pub record Running (size : ℕ) (rec s₀ u₀ log₀ : List ℕ) (b₀ : Bytes) (t₀ : SendTurned) (s u log : List ℕ) (b : Bytes) (t : SendTurned) : Type 0 where
  pub log-len : length log ≡ length log₀
  pub buf-len : length b ≡ 2048
  pub session-len : length s ≡ length s₀
  pub undo-len : length u ≡ length u₀
  pub held : is_session s ≡ true
  pub kept : turning.KeptAll u₀ u s₀ s b₀ b
  pub room : t.on ≡ true → t.end.len ≤ length log₀
  pub turns : (frame : Bytes) → to.Sized frame size → (e : World) (x : End) → to.Turns frame e x rec t₀ log₀ s₀ b₀ → to.Turns frame e x rec t log s b

-- each turn takes a word of the log or more
abbrev pub left : List ℕ → SendTurned → ℕ
left log t = pick t.on (1 + (length log - t.end.len)) 0

pub left_less : (log : List ℕ) (r t : SendTurned) → t.on ≡ true → t.end.len ≤ length log → (r.on ≡ true → (t.end.len < r.end.len) × (r.end.len ≤ length log)) → left log r < left log t
left_less log r t h l g = rw h (by r.on refl)
  where
    by : (o : Bool) → r.on ≡ o → pick o (1 + (length log - r.end.len)) 0 < 1 + (length log - t.end.len)
    by true k = omega (arith, (g k).0, (g k).1)
    by false k = omega arith
