-- What a send's step leaves: where it lays nothing, where it lays a header, and after a change of the state or an event; and a fault.
use Prim.Native.Nat.{ℕ, ◌+◌, ◌≤◌, min}
use native.Mathlib.Omega.{arith}
use mathlib.Core.Path.{◌≡◌, refl, ap, ◌∙◌}
use mathlib.Core.Bool.{Bool, true, false, true≢false}
use mathlib.Core.List.{List}
use lib.ListN.{length, drop}
use Rattle.slices.specs.Over.{over}
use Rattle.wlan.specs.declared.AsyncEvent.{AsyncEvent}
use Rattle.wlan.specs.declared.DriverError.{DriverError}
use Rattle.wlan.specs.declared.State.{State}
use Rattle.definition.specs.Bus.{Bytes}
use Rattle.definition.specs.Packet.{header}
use Rattle.handling.specs.Handle.{handled_of, list_heard}
use Rattle.device.specs.declared.Arrival.{Arrival}
use Rattle.device.specs.Poll.{poll_answer}
use Rattle.send.specs.declared.OutPacket.{OutPacket}
use Rattle.send.specs.declared.SendNext.{SendNext}
use Rattle.send.specs.declared.SendPoint.{SendPoint}
use Rattle.send.specs.declared.SendStep.{SendStep}
use Rattle.send.specs.declared.StallPoint.{StallPoint}
use Rattle.send.specs.Send as to
use Rattle.send.specs.Meaning.{laid_header}
use Rattle.effects.specs.Answer.{is_wait}
use Rattle.session_bytes.specs.declared.session.Session.{Session}
use Rattle.session_bytes.specs.Session.{is_session, session_in, with_state}
use Rattle.session_bytes.proofs.Laws.{session-length}
use Rattle.places.specs.Places.{Holds}
use Rattle.hearing.proofs.Laws.{records-kept}
use Rattle.undo.specs.Undo.{Kept, kept_of, back_session, back_buf}
use Rattle.undo.proofs.Laws.{buf-changed, front-changed}
use Rattle.undo.proofs.Parts.{drop-over-past}
use Rattle.arriving.specs.Arriving.{KeptFor, handled_session}
use Rattle.send_points.specs.declared.SendNow.{SendNow}
use Rattle.send_points.specs.declared.SentKind.{SentKind}
use Rattle.send_points.specs.SendPoints.{header_in, next_by, next_of}
use Rattle.sending.specs.Sending.{Covered, Spends, Emits, Sends}
use Rattle.std.specs.Prelude.{None, Err}
use Rattle.wlan.specs.Results.{fault_at}

-- ---- a fault

pub faulted : (s : State) (o : OutPacket) (p : SendPoint) (place : ℕ) (a : Arrival) → is_wait (to.send_op p) ≡ false
    → to.send_answer s o p (Err (fault_at place)) a ≡ to.refuses s (DriverError.Fault place)
unfolding is_wait to.send_op to.stall_op to.send_answer to.stall_answer to.at_first to.at_late to.stall_poll to.stall_next to.at_ready to.at_writing poll_answer
faulted s o (SendPoint.Stall StallPoint.First) place a h = refl
faulted s o (SendPoint.Stall (StallPoint.Polling t0 q)) place a h = refl
faulted s o (SendPoint.Stall (StallPoint.Late t0)) place a h = refl
faulted s o (SendPoint.Stall (StallPoint.Waited t0)) place a h = absurd (true≢false h)
faulted s o (SendPoint.Ready left n) place a h = refl
faulted s o (SendPoint.Writing n) place a h = refl

-- ---- a header

length-header : (size seq channel : ℕ) → length (header size seq channel) ≡ 12
unfolding header
length-header size seq channel = refl

pub covered : {u v : List ℕ} {c f : Bytes} (size seq channel : ℕ) → Kept v → min 12 2048 ≤ kept_of v → ((s : List ℕ) → back_session v s ≡ back_session u s)
    → back_buf v c ≡ back_buf u c → length c ≡ 2048 → length f ≡ 2048 → f ≡ over c 0 (header size seq channel) → Covered u v c f
covered {u} {v} {c} {f} size seq channel k m s e hc hf l =
    let n : 12 ≤ kept_of v = m in
    let q : 0 + length (header size seq channel) ≤ kept_of v = omega (arith, length-header size seq channel) in
    let g : drop (kept_of v) f ≡ drop (kept_of v) c = ap (λ (t : Bytes). drop (kept_of v) t) l ∙ drop-over-past (kept_of v) c 0 (header size seq channel) q in
    record { kept = k; session = s; buf = buf-changed f c k hf hc g ∙ e }

-- ---- a step

-- the state alone changed, so what is kept gives the same
front_kept : (u b : List ℕ) {d : List ℕ} (t : State) → Kept u → is_session b ≡ true → Holds d (with_state b t) → back_session u d ≡ back_session u b
front_kept u b {d} t k h s = front-changed d b k (session-length d s.known) (session-length b h) (records-kept b h t s)

none-laid : (k : SentKind) (r : SendNow) → header_in (next_by k r None) ≡ None
unfolding header_in next_by
none-laid SentKind.Ask r = refl
none-laid SentKind.Sent r = refl
none-laid SentKind.Refused r = refl

-- the state changed, and nothing is laid
pub changed : {u b d : List ℕ} {c : Bytes} {t : State} {r : SendNow} {h : Bool} {s : SendStep} → Kept u → is_session b ≡ true → Holds d (with_state b t)
    → s ≡ to.step t h (next_of r None) → Emits u u b d c c r h s
unfolding laid_header
changed {u} {b} {d} {c} {t} {r} k hb hd e =
    let n : header_in (next_of r None) ≡ None = none-laid r.kind r in
    rw e (record { next = rw n refl; laid = rw n refl; held = hd; heard = refl; kept = k; session = front_kept u b t k hb hd; buf = refl })

pub still : {u b : List ℕ} {c : Bytes} {r : SendNow} {h : Bool} {s : SendStep} → Kept u → is_session b ≡ true
    → s ≡ to.step (session_in b).st h (next_of r None) → Emits u u b b c c r h s
still k hb e = changed k hb (record { known = hb; back = refl }) e

-- a header is laid with the sequence number, which is spent
pub spent : {u v b d : List ℕ} {c f : Bytes} {o : OutPacket} → Kept u → is_session b ≡ true → Holds d (with_state b (to.spending (session_in b).st))
    → f ≡ laid_header (to.put_of (session_in b).st o) c → Covered u v c f → Spends u v b d c f o
spent {u} {v} {b} {d} k hb hd l w =
    record { laid = l; held = hd; kept = w.kept; session = w.session d ∙ front_kept u b (to.spending (session_in b).st) k hb hd; buf = w.buf }

pub emitted : {u v b d : List ℕ} {c f : Bytes} {o : OutPacket} {r : SendNow} {h : Bool} {n : SendNext} → Spends u v b d c f o
    → header_in n ≡ to.put_of (session_in b).st o → next_of r (to.put_of (session_in b).st o) ≡ n → Emits u v b d c f r h (to.step (to.spending (session_in b).st) h n)
emitted w i e = record { next = rw i e; laid = rw i w.laid; held = w.held; heard = refl; kept = w.kept; session = w.session; buf = w.buf }

-- nothing was heard
pub unheard : {u v b d : List ℕ} {c f : Bytes} {r : SendNow} {s : SendStep} (e : AsyncEvent) → Emits u v b d c f r false s → Sends u v b d c f r e s
unfolding list_heard
unheard e q = record { next = q.next; laid = q.laid; held = rw q.heard q.held; kept = q.kept; session = q.session; buf = q.buf }

-- after an event of a declared length
pub heard : {u v w b m d : List ℕ} {c f : Bytes} {r : SendNow} (e : AsyncEvent) (n : ℕ) (o : OutPacket) (t0 : ℕ) → Holds m (handled_session b e n) → KeptFor u v b m
    → ((h : Bool) → Emits v w m d c f r h (to.test_step (session_in m).st h o t0))
    → Sends u w b d c f r e (to.test_step (handled_of (session_in b).st n e).st (handled_of (session_in b).st n e).heard o t0)
unfolding handled_session
heard {u} {v} {w} {b} {m} {d} {c} {f} {r} e n o t0 hm kf q =
    let x = handled_of (session_in b).st n e in
    let es : (session_in m).st ≡ x.st = ap (λ (s : Session). s.st) hm.back in
    let el : (session_in m).list ≡ list_heard x.heard e (session_in b).list = ap (λ (s : Session). s.list) hm.back in
    let g : Emits v w m d c f r x.heard (to.test_step x.st x.heard o t0) = rw es at (q x.heard) in
    record {
      next = g.next;
      laid = g.laid;
      held = rw (g.heard, ← el) g.held;
      kept = g.kept;
      session = g.session ∙ kf.session;
      buf = g.buf ∙ kf.buf c;
    }

-- the device's poll changed the state before
pub moved : {u v b m d : List ℕ} {c f : Bytes} {t : State} {r : SendNow} (e : AsyncEvent) (step : State → SendStep) → Kept u → is_session b ≡ true → Holds m (with_state b t)
    → Sends u v m d c f r e (step (session_in m).st) → Sends u v b d c f r e (step t)
moved {u} {v} {b} {m} {d} {c} {f} {t} {r} e step k hb hm q =
    let es : (session_in m).st ≡ t = ap (λ (s : Session). s.st) hm.back in
    let el : (session_in m).list ≡ (session_in b).list = ap (λ (s : Session). s.list) hm.back in
    let g : Sends u v m d c f r e (step t) = rw es at q in
    record {
      next = g.next;
      laid = g.laid;
      held = record { known = g.held.known; back = rw el at g.held.back };
      kept = g.kept;
      session = g.session ∙ front_kept u b t k hb hm;
      buf = g.buf;
    }
