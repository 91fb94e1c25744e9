-- Parts laid one after another are the whole.
use mathlib.Core.Path.{◌≡◌, refl, sym, ap, subst, ◌∙◌}
use mathlib.Core.Bool.{true}
use mathlib.Core.List.{List, [], ◌∷◌, ◌++◌, append-nil, append_assoc}
use Prim.Native.Nat.{ℕ, ◌+◌, ◌*◌, ◌<◌}
use native.Mathlib.Nat.{zero-add}
use native.Mathlib.Numerals.{add-one}
use native.Mathlib.Omega.{arith}
use lib.ListN.{length, take, get_or, replicate, length-take}
use lib.Seq.{take-suc}
use Rattle.slices.specs.Over.{over}
use Rattle.slices.proofs.Over.{Run, run_more, over-append, over-whole}
use Rattle.wlan.specs.declared.ScanRecord.{ScanRecord}
use Rattle.wlan.specs.declared.ScanList.{ScanList}
use Rattle.wlan.specs.declared.State.{State}
use Rattle.definition.specs.Player.{state_number}
use Rattle.definition.specs.Join.{auth_of}
use Rattle.connect_failure.specs.Parts.{failure_parts, failure_of}
use Rattle.state_bytes.specs.Numbers.{bit, wifi_of, auth_number}
use Rattle.state_bytes.specs.Parts.{reply_parts, reply_of, frame_parts, frame_of, tick_parts, tick_of}
use Rattle.state_bytes.specs.StateBytes.{le64, front_bytes, pending_bytes, link_bytes, state_bytes, sdpcm_in, marks_in, pending_in, reply_in, frame_in, link_in, failure_in, tick_in, state_in}
use Rattle.state_bytes.proofs.Laws.{length-state}
use Rattle.session_bytes.specs.declared.session.Session.{Session}
use Rattle.session_bytes.specs.ListBytes.{record_bytes, records_bytes, list_bytes, list_in, Whole, EachWhole}
use Rattle.session_bytes.specs.Session.{session_bytes, session_in, is_session, with_state}
use Rattle.session_bytes.proofs.Laws.{length-records, session-size, session-back, session-known}
use Rattle.places.specs.Places as at
use Rattle.places.proofs.Laws.{holds-bytes}

-- ---- records

records-append : (a b : List ScanRecord) → records_bytes (a ++ b) ≡ records_bytes a ++ records_bytes b
unfolding records_bytes
records-append [] b = refl
records-append (r ∷ a) b = rw (records-append a b, append_assoc (record_bytes r) (records_bytes a) (records_bytes b))

records-one : (r : ScanRecord) → records_bytes (r ∷ []) ≡ record_bytes r
unfolding records_bytes
records-one r = append-nil (record_bytes r)

each_more : (l : List ScanRecord) (r : ScanRecord) → EachWhole l → Whole r → EachWhole (l ++ (r ∷ []))
each_more [] r w x = (x, tt)
each_more (s ∷ l) r w x = (w.0, each_more l r w.1 x)

-- one record more
pub each_next : (l : List ScanRecord) (i : ℕ) (z : ScanRecord) → i < length l → EachWhole (take i l) → Whole (get_or l i z) → EachWhole (take (i + 1) l)
each_next l i z h w x = rw (add-one, take-suc l i z h) (each_more (take i l) (get_or l i z) w x)

pub records-next : {d₀ d e : List ℕ} (l : List ScanRecord) (i : ℕ) (z : ScanRecord) → i < length l → EachWhole (take i l) → Run d₀ 49 (records_bytes (take i l)) d
    → e ≡ over d (49 + 42 * i) (record_bytes (get_or l i z)) → Run d₀ 49 (records_bytes (take (i + 1) l)) e
records-next l i z h w r e =
    rw (add-one, take-suc l i z h, records-append (take i l) (get_or l i z ∷ []), records-one (get_or l i z))
    (run_more (record_bytes (get_or l i z)) r (omega (arith, length-records (take i l) w, length-take i l)) e)

-- ---- the list

pub list_put : (d : List ℕ) {d₁ d₂ n : List ℕ} (l : ScanList) → n ≡ le64 l.count → d₁ ≡ over d 41 n → d₂ ≡ over d₁ 49 (records_bytes l.records) → d₂ ≡ over d 41 (list_bytes l)
unfolding list_bytes
list_put d l en e₁ e₂ = rw (e₂, e₁, en) (over-append d 41 (le64 l.count) (records_bytes l.records))

-- ---- the session

session-over : (d : List ℕ) (s : Session) → over (over d 0 (state_bytes s.st)) 41 (list_bytes s.list) ≡ over d 0 (session_bytes s)
unfolding session_bytes
session-over d s =
    let a = state_bytes s.st in
    let b = list_bytes s.list in
    subst (λ (n : ℕ). over (over d 0 a) n b ≡ over d 0 (a ++ b)) (zero-add (length a) ∙ length-state s.st) (over-append d 0 a b)

pub session-put : (d : List ℕ) {d₁ d₂ : List ℕ} (s : Session) → length d ≡ 1393 → length (list_bytes s.list) ≡ 1352 → d₁ ≡ over d 0 (state_bytes s.st) → d₂ ≡ over d₁ 41 (list_bytes s.list) → d₂ ≡ session_bytes s
session-put d s h k e₁ e₂ = rw (e₂, e₁, session-over d s) (over-whole d (session_bytes s) (omega (arith, session-size s k)))

-- ---- the state

zeros-are : state_bytes (state_in (replicate 41 0)) ≡ replicate 41 0
unfolding state_bytes front_bytes pending_bytes link_bytes state_number bit reply_parts frame_parts auth_number failure_parts tick_parts state_in sdpcm_in marks_in pending_in reply_in frame_in link_in failure_in tick_in reply_of frame_of failure_of tick_of wifi_of auth_of
zeros-are = refl

abbrev pub zeroed : ScanList → Session
zeroed l = record { st = state_in (replicate 41 0); list = l }

pub zeroed-put : (d : List ℕ) {d₁ d₂ : List ℕ} (l : ScanList) → length d ≡ 1393 → length (list_bytes l) ≡ 1352 → list_in (list_bytes l) ≡ l → d₁ ≡ over d 0 (replicate 41 0) → d₂ ≡ over d₁ 41 (list_bytes l)
    → at.Holds d₂ (zeroed l)
zeroed-put d l h k m e₁ e₂ =
    let e = session-put d (zeroed l) h k (rw zeros-are e₁) e₂ in
    let b = session-back (zeroed l) (ap state_in zeros-are) m in
    record { known = ap is_session e ∙ session-known (zeroed l) (session-size (zeroed l) k) b; back = ap session_in e ∙ b }

pub parts-put : (b : List ℕ) {d₁ d₂ d₃ d₄ d₅ : List ℕ} (s : State) → at.Holds d₁ (at.sdpcm_put b s.sdpcm) → at.Holds d₂ (at.marks_put d₁ s.scan) → at.Holds d₃ (at.reply_put d₂ s.pending.ioctl_resp) → at.Holds d₄ (at.frame_put d₃ s.pending.rx) → at.Holds d₅ (at.link_put d₄ s.link)
    → (d₅ ≡ session_bytes (with_state b s)) × ((is_session (session_bytes (with_state b s)) ≡ true) × (session_in (session_bytes (with_state b s)) ≡ with_state b s))
parts-put b {d₁} {d₂} {d₃} {d₄} {d₅} s h₁ h₂ h₃ h₄ h₅ =
    let h : at.Holds d₅ (with_state b s) = record { known = h₅.known; back = h₅.back ∙ rw (h₄.back, h₃.back, h₂.back, h₁.back) } in
    let e = holds-bytes h in
    (e, (ap is_session (sym e) ∙ h.known, ap session_in (sym e) ∙ h.back))

pub state-put : {b d : List ℕ} (s : Session) → at.Holds b (zeroed s.list) → (d ≡ session_bytes (with_state b s.st)) × ((is_session (session_bytes (with_state b s.st)) ≡ true) × (session_in (session_bytes (with_state b s.st)) ≡ with_state b s.st))
    → (d ≡ session_bytes s) × ((is_session (session_bytes s) ≡ true) × (session_in (session_bytes s) ≡ s))
state-put s h k = rw h.back at k
