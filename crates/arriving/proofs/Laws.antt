-- The session after an event, and records that are kept.
use Prim.Native.Nat.{ℕ, ◌+◌, ◌-◌, ◌<◌, ◌≤◌}
use mathlib.Core.Path.{◌≡◌, refl, sym, ap, subst, ◌∙◌}
use mathlib.Core.Bool.{Bool, true, false, ◌&&◌, true≢false}
use mathlib.Core.List.{List, ◌++◌}
use native.Mathlib.Omega.{arith}
use borrow.Author.Tests.{lt-ltb, le-ltb, eqb-true}
use lib.Dec.{eqb}
use lib.ListN.{length, take, drop, get_or, replicate, length-take, length-drop, get_or-append}
use lib.Seq.{get_or-take, get_or-drop, take-append-le, take-take, drop-drop}
use Rattle.slices.specs.Pick.{pick}
use Rattle.slices.proofs.Over.{drop-take, get_or_part}
use Rattle.wlan.specs.declared.AsyncEvent.{AsyncEvent}
use Rattle.wlan.specs.declared.ScanRecord.{ScanRecord}
use Rattle.wlan.specs.declared.State.{State}
use Rattle.handling.specs.Handle.{state_after, handled_of, list_heard}
use Rattle.definition.specs.Scan.{heard}
use Rattle.definition.specs.Event.{event_bytes, event_of, scan_result_of, link_after, scan_end, scan_after, list_after}
use Rattle.event_state.specs.declared.Numbers.{Numbers}
use Rattle.event_state.specs.EventState.{numbers_of, event_with}
use Rattle.session_bytes.specs.Session.{is_session, session_in, with_state}
use Rattle.session_bytes.proofs.Laws.{session-length}
use Rattle.places.specs.Places.{Holds}
use Rattle.hearing.specs.Hearing.{with_list}
use Rattle.hearing.proofs.Laws.{records-kept}
use Rattle.undo.specs.Undo.{Kept, kept_of, records_kept, back_session, back_buf}
use Rattle.undo.proofs.Laws.{front-changed, records-changed}
use Rattle.arriving.specs.Arriving as to

and_first : (t s : Bool) → (t && s) ≡ true → t ≡ true
and_first true s h = refl
and_first false s h = h

and_second : (t s : Bool) → (t && s) ≡ true → s ≡ true
and_second true s h = h
and_second false s h = absurd (true≢false (sym h))

pub kept_same : {u s : List ℕ} → Kept u → to.KeptFor u u s s
kept_same k = record { kept = k; count = refl; buf = λ b. refl; session = refl }

-- a state laid after the list leaves what is put back
pub kept-state : {u v b c d : List ℕ} (s : State) → to.KeptFor u v b c → is_session c ≡ true → Holds d (with_state c s) → to.KeptFor u v b d
kept-state s k hc h =
    record {
      kept = k.kept;
      count = k.count;
      buf = k.buf;
      session = front-changed _ _ k.kept (session-length _ h.known) (session-length _ hc) (records-kept _ hc s h) ∙ k.session;
    }

-- the records are kept, then the list is laid
pub kept-records : {u v b d : List ℕ} → Kept v → records_kept v ≡ true → kept_of v ≡ kept_of u → ((l : List ℕ) → back_buf v l ≡ back_buf u l) → back_session v b ≡ back_session u b
    → is_session b ≡ true → is_session d ≡ true → to.KeptFor u v b d
kept-records k r n f e hb hd =
    record { kept = k; count = n; buf = f; session = records-changed _ _ k r (session-length _ hd) (session-length _ hb) ∙ e }

-- ---- an event's bytes where they lie

-- those that the declared length and the packet have
byte-there : (b : List ℕ) (offset len i : ℕ) → 32 + i < len → offset + (32 + i) < length b → i < 140 → get_or (event_bytes (drop offset b) len) i 0 ≡ get_or b (offset + (32 + i)) 0
unfolding event_bytes
byte-there b offset len i h k m =
    let part = drop offset b in
    get_or-take 140 (drop 32 (take len part) ++ replicate 140 0) i 0 m
    ∙ (get_or-append (drop 32 (take len part)) (replicate 140 0) 0 i (omega (arith, length-drop 32 (take len part), length-take len part, length-drop offset b))
    ∙ (get_or-drop 32 (take len part) i 0
    ∙ (get_or-take len part (32 + i) 0 h ∙ get_or-drop offset b (32 + i) 0)))

-- the first 16
module _ (b : List ℕ) (offset len : ℕ) (h : length b ≡ 2048) (k : 48 ≤ len) (m : offset + 48 ≤ 2048) where
  first-is : (i : ℕ) → i < 16 → get_or (event_bytes (drop offset b) len) i 0 ≡ get_or (take 16 (drop (offset + 32) b)) i 0
  first-is i j =
      let z : offset + (32 + i) ≡ offset + 32 + i = omega arith in
      byte-there b offset len i (omega arith) (omega arith) (omega arith)
      ∙ (ap (λ (n : ℕ). get_or b n 0) z ∙ sym (get_or_part b (offset + 32) 16 i 0 j))

  numbers-there : event_of (drop offset b) len ≡ event_with (numbers_of (take 16 (drop (offset + 32) b))) (event_of (drop offset b) len).scan_result
  unfolding event_of numbers_of
  numbers-there =
      rw (
        first-is 2 (omega arith),
        first-is 3 (omega arith),
        first-is 4 (omega arith),
        first-is 5 (omega arith),
        first-is 6 (omega arith),
        first-is 7 (omega arith),
        first-is 8 (omega arith),
        first-is 9 (omega arith),
        first-is 10 (omega arith),
        first-is 11 (omega arith),
        first-is 12 (omega arith),
        first-is 13 (omega arith),
        first-is 14 (omega arith),
        first-is 15 (omega arith),
      )

  pub event-there : (n : Numbers) (w : ℕ) → w ≡ 16 → n ≡ numbers_of (take w (drop (offset + 32) b)) → event_of (drop offset b) len ≡ event_with n (event_of (drop offset b) len).scan_result
  event-there n w z e =
      numbers-there ∙ ap (λ (x : Numbers). event_with x (event_of (drop offset b) len).scan_result) (sym (e ∙ ap (λ (k : ℕ). numbers_of (take k (drop (offset + 32) b))) z))

-- an event whose bytes are e
module _ (p : List ℕ) (len : ℕ) (e : List ℕ) (q : e ≡ event_bytes p len) where
  pub numbers-from : (n : Numbers) → n ≡ numbers_of e → event_of p len ≡ event_with n (event_of p len).scan_result
  unfolding event_of numbers_of
  numbers-from n en = rw (en, q)

  pub result-from : scan_result_of e ≡ (event_of p len).scan_result
  unfolding event_of
  result-from = ap scan_result_of q

-- all 140
pub result-there : (b : List ℕ) (offset len : ℕ) → length b ≡ 2048 → 172 ≤ len → offset + 172 ≤ 2048 → (event_of (drop offset b) len).scan_result ≡ scan_result_of (take 140 (drop (offset + 32) b))
unfolding event_of event_bytes
result-there b offset len h k m =
    let part = drop offset b in
    let z : len ≡ 32 + (len - 32) = omega arith in
    ap scan_result_of (
    take-append-le 140 (drop 32 (take len part)) (replicate 140 0) (omega (arith, length-drop 32 (take len part), length-take len part, length-drop offset b))
    ∙ (ap (λ (n : ℕ). take 140 (drop 32 (take n part))) z
    ∙ (ap (λ (l : List ℕ). take 140 l) (drop-take 32 (len - 32) part)
    ∙ (take-take 140 (len - 32) (drop 32 part) (omega arith) ∙ ap (λ (l : List ℕ). take 140 l) (drop-drop 32 offset b)))))

-- ---- the session after an event

module _ (b : List ℕ) (e : AsyncEvent) where
  by-network : {d : List ℕ} (t s : ℕ) → t ≡ e.event_type → s ≡ e.status → (eqb t 69 && eqb s 8) ≡ true → Holds d (with_list b (heard (session_in b).list e.scan_result)) → Holds d (to.after_session b e)
  unfolding to.after_session state_after scan_end scan_after link_after list_after
  by-network t s et es h k =
      let p : e.event_type ≡ 69 = sym et ∙ eqb-true t 69 (and_first (eqb t 69) (eqb s 8) h) in
      let q : e.status ≡ 8 = sym es ∙ eqb-true s 8 (and_second (eqb t 69) (eqb s 8) h) in
      rw (p, q) k

  network-heard : {d : List ℕ} → (eqb e.event_type 69 && eqb e.status 8) ≡ true → Holds d (with_list b (heard (session_in b).list e.scan_result)) → Holds d (to.after_session b e)
  network-heard h k = by-network e.event_type e.status refl refl h k

  by-none : {d : List ℕ} (t s : Bool) → (t && s) ≡ false → Holds d (with_state b (state_after e (session_in b).st))
      → Holds d (record { st = state_after e (session_in b).st; list = pick t (pick s (heard (session_in b).list e.scan_result) (session_in b).list) (session_in b).list })
  by-none true true h k = absurd (true≢false h)
  by-none true false h k = k
  by-none false s h k = k

  none-heard : {d : List ℕ} → (eqb e.event_type 69 && eqb e.status 8) ≡ false → Holds d (with_state b (state_after e (session_in b).st)) → Holds d (to.after_session b e)
  unfolding to.after_session list_after
  none-heard h k = by-none (eqb e.event_type 69) (eqb e.status 8) h k

  -- n: its numbers
  module _ (n : Numbers) (en : e ≡ event_with n e.scan_result) where
    pub network-there : {d : List ℕ} → (eqb n.event_type 69 && eqb n.status 8) ≡ true → Holds d (with_list b (heard (session_in b).list e.scan_result)) → Holds d (to.after_session b e)
    network-there h k = network-heard (ap (λ (x : AsyncEvent). (eqb x.event_type 69 && eqb x.status 8)) en ∙ h) k

    pub none-there : {d : List ℕ} → (eqb n.event_type 69 && eqb n.status 8) ≡ false → ((x : ScanRecord) → Holds d (with_state b (state_after (event_with n x) (session_in b).st))) → Holds d (to.after_session b e)
    none-there {d} h k =
        none-heard (ap (λ (x : AsyncEvent). (eqb x.event_type 69 && eqb x.status 8)) en ∙ h)
        (subst (λ (x : AsyncEvent). Holds d (with_state b (state_after x (session_in b).st))) (sym en) (k e.scan_result))

  pub short-event : (len : ℕ) → is_session b ≡ true → len < 48 → Holds b (to.handled_session b e len)
  unfolding to.handled_session handled_of list_heard
  short-event len h k = rw (lt-ltb len 48 k) (record { known = h; back = refl })

  pub long-event : {d : List ℕ} (len : ℕ) → 48 ≤ len → Holds d (to.after_session b e) → Holds d (to.handled_session b e len)
  unfolding to.handled_session to.after_session handled_of list_heard
  long-event len k h = rw (le-ltb len 48 k) h
