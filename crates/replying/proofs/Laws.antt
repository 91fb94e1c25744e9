-- What a step of `do_ioctl` leaves: where it lays nothing, after the send's step, after a change of the state or an event; and a fault.
use Prim.Native.Nat.{ℕ}
use mathlib.Core.Path.{◌≡◌, refl, ap, ◌∙◌}
use mathlib.Core.Bool.{Bool, true, false, true≢false}
use mathlib.Core.List.{List}
use Rattle.wlan.specs.declared.AsyncEvent.{AsyncEvent}
use Rattle.wlan.specs.declared.DriverError.{DriverError}
use Rattle.wlan.specs.declared.State.{State}
use Rattle.definition.specs.Bus.{Bytes}
use Rattle.handling.specs.Handle.{handled_of, list_heard}
use Rattle.device.specs.declared.Arrival.{Arrival}
use Rattle.device.specs.Poll.{poll_answer}
use Rattle.send.specs.declared.OutPacket.{OutPacket}
use Rattle.send.specs.declared.SendStep.{SendStep}
use Rattle.send.specs.Send as snd
use Rattle.send.specs.Meaning.{laid_header}
use Rattle.ioctl.specs.declared.IoctlNext.{IoctlNext}
use Rattle.ioctl.specs.declared.IoctlPoint.{IoctlPoint}
use Rattle.ioctl.specs.declared.IoctlStep.{IoctlStep}
use Rattle.ioctl.specs.Ioctl as to
use Rattle.effects.specs.Answer.{is_wait}
use Rattle.session_bytes.specs.declared.session.Session.{Session}
use Rattle.session_bytes.specs.Session.{is_session, session_in, with_state}
use Rattle.session_bytes.proofs.Laws.{session-length}
use Rattle.places.specs.Places.{Holds}
use Rattle.hearing.proofs.Laws.{records-kept}
use Rattle.undo.specs.Undo.{Kept, back_session}
use Rattle.undo.proofs.Laws.{front-changed}
use Rattle.arriving.specs.Arriving.{KeptFor, handled_session}
use Rattle.send_points.specs.declared.SendNow.{SendNow}
use Rattle.send_points.specs.SendPoints as send
use Rattle.sending.specs.Sending.{Spends, Sends}
use Rattle.sending.proofs.Laws as sending
use Rattle.reply_points.specs.declared.IoctlNow.{IoctlNow}
use Rattle.reply_points.specs.declared.IoctlNowKind.{IoctlNowKind}
use Rattle.reply_points.specs.ReplyPoints.{header_in, next_by, next_of, stays}
use Rattle.replying.specs.Replying.{first_step, Numbered, Follows, Starts, Replies}
use Rattle.std.specs.Prelude.{Option, None, Err}
use Rattle.send.specs.declared.Header.{Header}
use Rattle.wlan.specs.Results.{fault_at}

-- the state alone changed, so what is kept gives the same
front_kept : (u b : List ℕ) {d : List ℕ} (t : State) → Kept u → is_session b ≡ true → Holds d (with_state b t) → back_session u d ≡ back_session u b
front_kept u b {d} t k h s = front-changed d b k (session-length d s.known) (session-length b h) (records-kept b h t s)

none-laid : (k : IoctlNowKind) (r : IoctlNow) → header_in (next_by k r None) ≡ None
unfolding header_in next_by
none-laid IoctlNowKind.Ask r = refl
none-laid IoctlNowKind.Done r = refl
none-laid IoctlNowKind.Refused r = refl

-- ---- after the send's step, which laid its header and heard what came

pub changed : {b d : List ℕ} {t : State} {r : IoctlNow} {h : Bool} {s : IoctlStep} → Holds d (with_state b t) → s ≡ stays t h r → Follows b d r h None s
changed {b} {d} {t} {r} hd e = rw (e) (record { next = ap (λ (x : Option Header). next_of r x) (none-laid r.kind r); header = none-laid r.kind r; held = hd; heard = refl })

pub still : {b : List ℕ} {r : IoctlNow} {h : Bool} {s : IoctlStep} → is_session b ≡ true → s ≡ stays (session_in b).st h r → Follows b b r h None s
still hb e = changed (record { known = hb; back = refl }) e

-- a header that is laid already
pub follows : {b : List ℕ} {r : IoctlNow} {h : Bool} {n : IoctlNext} (x : Option Header) → is_session b ≡ true → header_in n ≡ x → next_of r x ≡ n → Follows b b r h x (to.step (session_in b).st h n)
follows x hb i e = record { next = rw i e; header = i; held = record { known = hb; back = refl }; heard = refl }

-- the state changed before
pub follows-moved : {b m d : List ℕ} {t : State} {r : IoctlNow} {h : Bool} {x : Option Header} (f : State → IoctlStep) → Holds m (with_state b t) → Follows m d r h x (f (session_in m).st) → Follows b d r h x (f t)
follows-moved {b} {m} {d} {t} {r} {h} {x} f k q =
    let e : (session_in m).st ≡ t = ap (λ (s : Session). s.st) k.back in
    let g : Follows m d r h x (f t) = rw e at q in
    record { next = g.next; header = g.header; held = record { known = g.held.known; back = rw k.back at g.held.back }; heard = g.heard }

-- n: what the send's step x came to
abbrev Sent : List ℕ → List ℕ → SendNow → IoctlNow → ℕ → Type 0
Sent m d n r len = (h : Bool) (x : Option Header) → Follows m d r h (send.header_in (send.next_of n x)) (to.sending_next (session_in m).st h len (send.next_of n x))

sent-by : {u v b m d : List ℕ} {c f : Bytes} {n : SendNow} {r : IoctlNow} (e : AsyncEvent) (x : SendStep) (len : ℕ) → Sends u v b m c f n e x → Sent m d n r len → Follows m d r x.heard (send.header_in x.next) (to.sending_step x len)
unfolding to.sending_step
sent-by {u} {v} {b} {m} {d} {c} {f} {n} {r} e x len k q =
    let es : (session_in m).st ≡ x.st = ap (λ (s : Session). s.st) k.held.back in
    rw (k.next, es) at (q x.heard (send.header_in x.next))

pub after-send : {u v b m d : List ℕ} {c f : Bytes} {n : SendNow} {r : IoctlNow} (e : AsyncEvent) (x : SendStep) (len : ℕ) → Sends u v b m c f n e x → Sent m d n r len → Replies u v b d c f r e (to.sending_step x len)
after-send {u} {v} {b} {m} {d} {c} {f} {n} {r} e x len k q =
    let g = sent-by e x len k q in
    let el : (session_in m).list ≡ list_heard x.heard e (session_in b).list = ap (λ (s : Session). s.list) k.held.back in
    record {
      next = g.next;
      laid = rw g.header k.laid;
      held = rw (g.heard, ← el) g.held;
      kept = k.kept;
      session = front_kept v m (to.sending_step x len).st k.kept k.held.known g.held ∙ k.session;
      buf = k.buf;
    }

-- ---- the first step

-- n: what is next once the header is laid and the sequence number spent
pub emitted : {u v b d : List ℕ} {c f : Bytes} {o : OutPacket} {r : IoctlNow} {n : IoctlNext} → Spends u v b d c f o
    → header_in n ≡ snd.put_of (session_in b).st o → next_of r (snd.put_of (session_in b).st o) ≡ n → Starts u v b d c f r (to.step (snd.spending (session_in b).st) false n)
emitted w i e = record { next = rw i e; laid = rw i w.laid; held = w.held; kept = w.kept; session = w.session; buf = w.buf }

-- nothing is laid
pub unemitted : {u b : List ℕ} {c : Bytes} {r : IoctlNow} {s : IoctlStep} → Kept u → is_session b ≡ true → s ≡ stays (session_in b).st false r → Starts u u b b c c r s
unfolding laid_header
unemitted {u} {b} {c} {r} k hb e =
    rw e (record { next = ap (λ (x : Option Header). next_of r x) (none-laid r.kind r); laid = rw (none-laid r.kind r); held = record { known = hb; back = refl }; kept = k; session = refl; buf = refl })

-- the id was spent before
pub numbered : {u v b m d : List ℕ} {c f : Bytes} {r : IoctlNow} (len : ℕ) → Kept u → is_session b ≡ true → Numbered b m
    → Starts u v m d c f r (first_step (session_in m).st len) → Starts u v b d c f r (to.start_step (session_in b).st len)
unfolding to.start_step
numbered {u} {v} {b} {m} {d} {c} {f} {r} len k hb hm q =
    let es : (session_in m).st ≡ to.numbering (session_in b).st = ap (λ (s : Session). s.st) hm.back in
    let el : (session_in m).list ≡ (session_in b).list = ap (λ (s : Session). s.list) hm.back in
    let g : Starts u v m d c f r (first_step (to.numbering (session_in b).st) len) = rw es at q in
    record {
      next = g.next;
      laid = g.laid;
      held = record { known = g.held.known; back = rw el at g.held.back };
      kept = g.kept;
      session = g.session ∙ front_kept u b (to.numbering (session_in b).st) k hb hm;
      buf = g.buf;
    }

-- ---- a step that lays nothing

pub unlaid : {u b d : List ℕ} {c : Bytes} {r : IoctlNow} {s : IoctlStep} (e : AsyncEvent) → Kept u → is_session b ≡ true → Follows b d r false None s → Replies u u b d c c r e s
unfolding laid_header list_heard
unlaid {u} {b} {d} {c} {r} {s} e k hb q =
    record { next = q.next; laid = rw q.header; held = rw q.heard q.held; kept = k; session = front_kept u b s.st k hb q.held; buf = refl }

-- after an event of a declared length
pub heard : {u v b d : List ℕ} {c : Bytes} {r : IoctlNow} (e : AsyncEvent) (n : ℕ) → Holds d (handled_session b e n) → KeptFor u v b d
    → Replies u v b d c c r e (stays (handled_of (session_in b).st n e).st (handled_of (session_in b).st n e).heard r)
unfolding handled_session laid_header
heard {u} {v} {b} {d} {c} {r} e n hd kf =
    record {
      next = ap (λ (x : Option Header). next_of r x) (none-laid r.kind r);
      laid = rw (none-laid r.kind r);
      held = hd;
      kept = kf.kept;
      session = kf.session;
      buf = kf.buf c;
    }

-- the device's poll changed the state before
pub moved : {u v b m d : List ℕ} {c f : Bytes} {t : State} {r : IoctlNow} (e : AsyncEvent) (step : State → IoctlStep) → Kept u → is_session b ≡ true → Holds m (with_state b t)
    → Replies u v m d c f r e (step (session_in m).st) → Replies u v b d c f r e (step t)
moved {u} {v} {b} {m} {d} {c} {f} {t} {r} e step k hb hm q =
    let es : (session_in m).st ≡ t = ap (λ (s : Session). s.st) hm.back in
    let el : (session_in m).list ≡ (session_in b).list = ap (λ (s : Session). s.list) hm.back in
    let g : Replies u v m d c f r e (step t) = rw es at q in
    record {
      next = g.next;
      laid = g.laid;
      held = record { known = g.held.known; back = rw el at g.held.back };
      kept = g.kept;
      session = g.session ∙ front_kept u b t k hb hm;
      buf = g.buf;
    }

-- ---- a fault

pub faulted : (s : State) (len : ℕ) (p : IoctlPoint) (place : ℕ) (a : Arrival) → is_wait (to.ioctl_op p) ≡ false
    → to.ioctl_answer s len p (Err (fault_at place)) a ≡ to.refuses s false (DriverError.Fault place)
unfolding is_wait to.ioctl_op to.ioctl_answer to.sending_step to.sending_next to.at_first to.at_test to.reply_poll to.reply_next poll_answer
faulted s len (IoctlPoint.Sending q) place a h = rw (sending.faulted s (to.out_of len) q place a h)
faulted s len IoctlPoint.First place a h = refl
faulted s len (IoctlPoint.Test t0) place a h = refl
faulted s len (IoctlPoint.Polling t0 q) place a h = refl
faulted s len (IoctlPoint.Waited t0) place a h = absurd (true≢false h)

pub fault-replies : {u b : List ℕ} {c : Bytes} {r : IoctlNow} (e : AsyncEvent) (len : ℕ) (p : IoctlPoint) (place : ℕ) (a : Arrival) → Kept u → is_session b ≡ true → is_wait (to.ioctl_op p) ≡ false
    → ((h : Option Header) → next_of r h ≡ IoctlNext.Refused h (DriverError.Fault place)) → Replies u u b b c c r e (to.ioctl_answer (session_in b).st len p (Err (fault_at place)) a)
fault-replies {u} {b} {c} {r} e len p place a k hb w f = rw (faulted (session_in b).st len p place a w) (unlaid e k hb (still hb (rw (f None) refl)))
