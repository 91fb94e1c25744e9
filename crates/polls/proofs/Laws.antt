-- A poll's first answer; a step as it is kept, and one after an event.
use Prim.Native.Nat.{ℕ, ◌%◌}
use mathlib.Core.Path.{◌≡◌, refl, ap, ◌∙◌}
use mathlib.Core.Bool.{Bool, true, false}
use mathlib.Core.List.{List}
use lib.Bits.{bit_and}
use lib.Dec.{eqb}
use borrow.Author.Tests.{eq-eqb, ne_eqb}
use Rattle.wlan.specs.declared.AsyncEvent.{AsyncEvent}
use Rattle.wlan.specs.declared.State.{State}
use Rattle.wlan.specs.State.{with_sdpcm, set_mark}
use Rattle.device.specs.declared.Arrival.{Arrival}
use Rattle.device.specs.declared.PollPoint.{PollPoint}
use Rattle.definition.specs.Device.{pending, unreadable}
use Rattle.device.specs.Poll.{poll_answer, valued_step, interrupt_step, read_step, status_step}
use Rattle.handling.specs.Handle.{handled_of, list_heard}
use Rattle.control.specs.declared.CallNext.{CallNext}
use Rattle.control.specs.declared.CallPoint.{CallPoint}
use Rattle.control.specs.declared.CallStep.{CallStep}
use Rattle.control.specs.Poll as to
use Rattle.control.specs.Meaning.{list_at}
use Rattle.session_bytes.specs.declared.session.Session.{Session}
use Rattle.session_bytes.specs.Session.{is_session, session_in, with_state}
use Rattle.session_bytes.proofs.Laws.{session-length}
use Rattle.places.specs.Places.{Holds}
use Rattle.hearing.proofs.Laws.{records-kept}
use Rattle.undo.specs.Undo.{Kept, back_session}
use Rattle.undo.proofs.Laws.{front-changed}
use Rattle.arriving.specs.Arriving.{KeptFor, handled_session}
use Rattle.poll_report.specs.PollReport.{Quiet}
use Rattle.poll_report.proofs.Laws.{still}
use Rattle.poll_now.specs.declared.PollNow.{PollNow}
use Rattle.poll_now.specs.PollNow.{NextIs, Quiets}
use Rattle.polls.specs.Polls.{Stepped}
use Rattle.std.specs.Prelude.{Ok}

-- an interrupt that is not 0 is written back
pub acknowledges : (r : PollNow) (b : List ℕ) (v : ℕ) (a : Arrival) → is_session b ≡ true → (v % 65536 ≡ 0 → ⊥) → NextIs r (CallNext.Ask (CallPoint.Poll (PollPoint.Acknowledge (v % 65536))))
    → Quiets b b r (to.poll_point (session_in b).st PollPoint.Interrupt (Ok v) a)
unfolding to.poll_point to.next_step poll_answer valued_step interrupt_step
acknowledges r b v a k h n = rw (ne_eqb (v % 65536) 0 h) (still k n refl)

-- the first status
module _ (b : List ℕ) (v : ℕ) (a : Arrival) where
  abbrev word : ℕ
  word = v % 4294967296

  abbrev first : CallStep
  first = to.poll_point (session_in b).st (PollPoint.Status 999) (Ok v) a

  pub status-waits : (r : PollNow) → is_session b ≡ true → word ≡ 0xffffffff → NextIs r (CallNext.Ask (CallPoint.Poll (PollPoint.Waited 999))) → Quiets b b r first
  unfolding to.poll_point to.next_step poll_answer valued_step read_step
  status-waits r k e n = rw (eq-eqb word 0xffffffff e) (still k n refl)

  module _ (x : word ≡ 0xffffffff → ⊥) where
    pub status-unreadable : (r : PollNow) → is_session b ≡ true → eqb (bit_and word 0x100) 0 ≡ false → unreadable word ≡ true → NextIs r (CallNext.Ask (CallPoint.Poll PollPoint.FrameControl)) → Quiets b b r first
    unfolding to.poll_point to.next_step poll_answer valued_step read_step status_step
    status-unreadable r k p u n = rw (ne_eqb word 0xffffffff x, p, u) (still k n refl)

    pub status-packet : (r : PollNow) → is_session b ≡ true → eqb (bit_and word 0x100) 0 ≡ false → unreadable word ≡ false → NextIs r (CallNext.Ask (CallPoint.Poll (PollPoint.Packet (pending word)))) → Quiets b b r first
    unfolding to.poll_point to.next_step poll_answer valued_step read_step status_step
    status-packet r k p u n = rw (ne_eqb word 0xffffffff x, p, u) (still k n refl)

    pub status-none : {d : List ℕ} (r : PollNow) → eqb (bit_and word 0x100) 0 ≡ true → Quiets b d r (to.nothing_step (with_sdpcm (session_in b).st (set_mark (session_in b).st.sdpcm false))) → Quiets b d r first
    unfolding to.poll_point to.next_step to.packet_step poll_answer valued_step read_step status_step
    status-none r p q = rw (ne_eqb word 0xffffffff x, p) q

-- the state alone changed, so what is kept gives the same
pub front_kept : (u b : List ℕ) {d : List ℕ} (t : State) → Kept u → is_session b ≡ true → Holds d (with_state b t) → back_session u d ≡ back_session u b
front_kept u b {d} t k h s = front-changed d b k (session-length d s.known) (session-length b h) (records-kept b h t s)

pub quiet-stepped : {u b d : List ℕ} {r : PollNow} {s : CallStep} (e : AsyncEvent) → Kept u → is_session b ≡ true → Quiets b d r s → Stepped u u b d r e s
unfolding list_at list_heard
quiet-stepped {u} {b} {d} {r} {s} e k h q =
    record {
      next = q.next;
      held = rw (q.heard, q.clear) q.held;
      kept = record { kept = k; count = refl; buf = λ x. refl; session = front_kept u b s.st k h q.held };
      lay = q.lay;
    }

-- after an event of a declared length
pub heard-stepped : {u v b c d : List ℕ} {r : PollNow} (e : AsyncEvent) (n : ℕ) → Holds c (handled_session b e n) → KeptFor u v b c
    → ((h : Bool) → Quiet (NextIs r) c d h (to.polling_step (session_in c).st h)) → d ≡ c → Stepped u v b d r e (to.polling_step (handled_of (session_in b).st n e).st (handled_of (session_in b).st n e).heard)
unfolding list_at handled_session to.polling_step
heard-stepped {u} {v} {b} {c} {d} {r} e n k kf q ed =
    let es : (session_in c).st ≡ (handled_of (session_in b).st n e).st = ap (λ (s : Session). s.st) k.back in
    let g = q (handled_of (session_in b).st n e).heard in
    record { next = rw es at g.next; held = rw ed k; kept = rw ed kf; lay = refl }

-- the device's poll changed the state before
pub stepped-moved : {u v b c d : List ℕ} {t : State} {r : PollNow} (e : AsyncEvent) (f : State → CallStep) → Kept u → is_session b ≡ true → Holds c (with_state b t) → Stepped u v c d r e (f (session_in c).st) → Stepped u v b d r e (f t)
stepped-moved {u} {v} {b} {c} {d} {t} {r} e f k h m q =
    let es : (session_in c).st ≡ t = ap (λ (s : Session). s.st) m.back in
    let el : (session_in c).list ≡ (session_in b).list = ap (λ (s : Session). s.list) m.back in
    let g : Stepped u v c d r e (f t) = rw es at q in
    record {
      next = g.next;
      held = record { known = g.held.known; back = rw el at g.held.back };
      kept = record { kept = g.kept.kept; count = g.kept.count; buf = g.kept.buf; session = g.kept.session ∙ front_kept u b t k h m };
      lay = g.lay;
    }
