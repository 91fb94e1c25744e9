-- What is read back is what was written.
use mathlib.Core.Path.{◌≡◌, refl, sym, ap, subst, ◌∙◌}
use mathlib.Core.Bool.{Bool, true, false, ◌&&◌, false≢true}
use mathlib.Core.List.{List, [], ◌∷◌, ◌++◌, append_assoc}
use Prim.Native.Nat.{ℕ, zero, suc, ◌+◌, ◌*◌, ◌<◌}
use native.Mathlib.Omega.{arith}
use borrow.Author.Tests.{eq-eqb, eqb-true}
use lib.Dec.{eqb}
use lib.IntN.{ℤ}
use lib.ListN.{length, take, drop, get_or, length-append, length-drop}
use lib.Seq.{take_at, drop_at, drop-drop, get_or-append-add}
use Rattle.slices.specs.Over.{over}
use Rattle.slices.specs.Le.{le16_at, le32_at, signed16}
use Rattle.slices.proofs.Over.{over-append, over-nil}
use Rattle.wlan.specs.declared.ScanRecord.{ScanRecord}
use Rattle.wlan.specs.declared.ScanList.{ScanList}
use Rattle.wlan.specs.declared.State.{State}
use Rattle.definition.specs.Scan.{same_bytes}
use Rattle.state_bytes.specs.StateBytes.{le64, front_bytes, pending_bytes, link_bytes, state_bytes, state_in}
use Rattle.state_bytes.proofs.Laws.{length-state}
use Rattle.session_bytes.specs.declared.session.Session.{Session}
use Rattle.session_bytes.specs.ListBytes.{tail_bytes, record_bytes, records_bytes, list_bytes, record_of, records_from, list_in, Whole, EachWhole}
use Rattle.session_bytes.specs.Session.{session_bytes, session_in, is_session, with_state}

-- ---- a record

pub tail_at : (x y z : List ℕ) (k : ℕ) → length x ≡ 32 → length y ≡ 6 → get_or (x ++ (y ++ z)) (38 + k) 0 ≡ get_or z k 0
tail_at x y z k h g =
    let e : 38 + k ≡ length x + (length y + k) = omega arith in
    rw (e, get_or-append-add x (y ++ z) (length y + k) 0, get_or-append-add y z k 0)

pub record_is : (r : ScanRecord) (a b : List ℕ) (c d : ℕ) (z : ℤ) → a ≡ r.ssid → b ≡ r.bssid → c ≡ r.ssid_len → d ≡ r.channel → z ≡ r.rssi
    → record { ssid = a; bssid = b; ssid_len = c; channel = d; rssi = z } ≡ r
record_is r a b c d z ea eb ec ed ez = rw (ea, eb, ec, ed, ez)

record-back : (r : ScanRecord) (t : List ℕ) → length r.ssid ≡ 32 → length r.bssid ≡ 6 → signed16 (le16_at (tail_bytes r) 2) ≡ r.rssi
    → record_of (r.ssid ++ (r.bssid ++ (tail_bytes r ++ t))) ≡ r
unfolding record_of tail_bytes
record-back r t h k s =
    let z : List ℕ = tail_bytes r ++ t in
    record_is r _ _ _ _ _
    (take_at r.ssid (r.bssid ++ z) 32 h)
    (ap (λ (l : List ℕ). take 6 l) (drop_at r.ssid (r.bssid ++ z) 32 h) ∙ take_at r.bssid z 6 k)
    (tail_at r.ssid r.bssid z 0 h k)
    (tail_at r.ssid r.bssid z 1 h k)
    (rw (tail_at r.ssid r.bssid z 2 h k, tail_at r.ssid r.bssid z 3 h k) s)

record-append : (r : ScanRecord) (t : List ℕ) → record_bytes r ++ t ≡ r.ssid ++ (r.bssid ++ (tail_bytes r ++ t))
unfolding record_bytes
record-append r t = append_assoc r.ssid (r.bssid ++ tail_bytes r) t ∙ ap (λ (l : List ℕ). r.ssid ++ l) (append_assoc r.bssid (tail_bytes r) t)

pub record-size : (r : ScanRecord) → length r.ssid ≡ 32 → length r.bssid ≡ 6 → length (record_bytes r) ≡ 42
unfolding record_bytes tail_bytes
record-size r h k = omega (arith, length-append r.ssid (r.bssid ++ tail_bytes r), length-append r.bssid (tail_bytes r))

pub record-whole : (r : ScanRecord) → length r.ssid ≡ 32 → length r.bssid ≡ 6 → signed16 (le16_at (tail_bytes r) 2) ≡ r.rssi → Whole r
record-whole r h k s = record { size = record-size r h k; back = λ t. ap record_of (record-append r t) ∙ record-back r t h k s }

pub record-put : (d : List ℕ) {d₁ d₂ d₃ : List ℕ} (at : ℕ) (r : ScanRecord) {t : List ℕ} → length r.ssid ≡ 32 → length r.bssid ≡ 6 → t ≡ tail_bytes r
    → d₁ ≡ over d at r.ssid → d₂ ≡ over d₁ (at + 32) r.bssid → d₃ ≡ over d₂ (at + 38) t → d₃ ≡ over d at (record_bytes r)
unfolding record_bytes
record-put d at r {t} h k et e₁ e₂ e₃ =
    let a = r.ssid in
    let b = r.bssid in
    let f : at + 32 ≡ at + length a = omega arith in
    let g : at + 38 ≡ at + length (a ++ b) = omega (arith, length-append a b) in
    rw (e₃, e₂, e₁, et, f, over-append d at a b, g, over-append d at (a ++ b) (tail_bytes r), append_assoc a b (tail_bytes r))

-- ---- records

pub length-records : (l : List ScanRecord) → EachWhole l → length (records_bytes l) ≡ 42 * length l
unfolding records_bytes
length-records [] w = refl
length-records (r ∷ l) w = omega (arith, length-append (record_bytes r) (records_bytes l), w.0.size, length-records l w.1)

records-back : (l : List ScanRecord) → EachWhole l → records_from (length l) (records_bytes l) ≡ l
unfolding records_bytes records_from
records-back [] w = refl
records-back (r ∷ l) w = rw (w.0.back (records_bytes l), drop_at (record_bytes r) (records_bytes l) 42 w.0.size, records-back l w.1)

pub length_from : (n : ℕ) (p : List ℕ) → length (records_from n p) ≡ n
unfolding records_from
length_from zero p = refl
length_from (suc n) p = ap suc (length_from n (drop 42 p))

next-record : (i : ℕ) → 42 * suc i ≡ 42 + 42 * i
next-record i = omega arith

pub get_or-from : (n : ℕ) (p : List ℕ) (i : ℕ) (z : ScanRecord) → i < n → get_or (records_from n p) i z ≡ record_of (drop (42 * i) p)
unfolding records_from
get_or-from zero p i z h = absurd (omega arith)
get_or-from (suc n) p zero z h = refl
get_or-from (suc n) p (suc i) z h = rw (next-record i, ← drop-drop (42 * i) 42 p) (get_or-from n (drop 42 p) i z (omega arith))

-- ---- the list

pub list-size : (l : ScanList) → length l.records ≡ 32 → EachWhole l.records → length (list_bytes l) ≡ 1352
unfolding list_bytes
list-size l h w = omega (arith, length-append (le64 l.count) (records_bytes l.records), length-records l.records w)

pub list_back : (l : ScanList) → length l.records ≡ 32 → EachWhole l.records → le32_at (le64 l.count) 0 + 4294967296 * le32_at (le64 l.count) 4 ≡ l.count → list_in (list_bytes l) ≡ l
unfolding list_in list_bytes
list_back l h w e =
    let q : records_from 32 (records_bytes l.records) ≡ l.records = subst (λ (n : ℕ). records_from n (records_bytes l.records) ≡ l.records) h (records-back l.records w) in
    rw (q, e)

-- ---- the session

pub state-front : (s : State) (t : List ℕ) → state_in (state_bytes s ++ t) ≡ state_in (state_bytes s)
unfolding state_in state_bytes front_bytes pending_bytes link_bytes
state-front s t = refl

pub session-back : (s : Session) → state_in (state_bytes s.st) ≡ s.st → list_in (list_bytes s.list) ≡ s.list → session_in (session_bytes s) ≡ s
unfolding session_in session_bytes
session-back s h k =
    rw (state-front s.st (list_bytes s.list), drop_at (state_bytes s.st) (list_bytes s.list) 41 (length-state s.st), h, k)

pub session-size : (s : Session) → length (list_bytes s.list) ≡ 1352 → length (session_bytes s) ≡ 1393
unfolding session_bytes
session-size s h = omega (arith, length-append (state_bytes s.st) (list_bytes s.list), length-state s.st)

pub same_refl : (a : List ℕ) → same_bytes a a ≡ true
unfolding same_bytes
same_refl [] = refl
same_refl (x ∷ a) = rw (eq-eqb x x refl, same_refl a)

pub session-known : (s : Session) → length (session_bytes s) ≡ 1393 → session_in (session_bytes s) ≡ s → is_session (session_bytes s) ≡ true
unfolding is_session
session-known s h e = rw (e, h, same_refl (session_bytes s))

-- ---- bytes that are a session's

and_left : (a b : Bool) → (a && b) ≡ true → a ≡ true
and_left true b e = refl
and_left false b e = e

and_right : (a b : Bool) → (a && b) ≡ true → b ≡ true
and_right true b e = e
and_right false b e = absurd (false≢true e)

pub same-eq : (a b : List ℕ) → same_bytes a b ≡ true → a ≡ b
unfolding same_bytes
same-eq [] [] e = refl
same-eq [] (y ∷ b) e = absurd (false≢true e)
same-eq (x ∷ a) [] e = absurd (false≢true e)
same-eq (x ∷ a) (y ∷ b) e =
    ap (λ (z : ℕ). z ∷ a) (eqb-true x y (and_left (eqb x y) (same_bytes a b) e)) ∙ ap (λ (l : List ℕ). y ∷ l) (same-eq a b (and_right (eqb x y) (same_bytes a b) e))

-- bytes of another length are none
pub session-length : (b : List ℕ) → is_session b ≡ true → length b ≡ 1393
unfolding is_session
session-length b h = eqb-true (length b) 1393 (and_left (eqb (length b) 1393) (same_bytes (session_bytes (session_in b)) b) h)

-- each session has one form: bytes that are a session's are the bytes of the session that they hold
pub session-form : (b : List ℕ) → is_session b ≡ true → session_bytes (session_in b) ≡ b
unfolding is_session
session-form b h = same-eq (session_bytes (session_in b)) b (and_right (eqb (length b) 1393) (same_bytes (session_bytes (session_in b)) b) h)

-- ---- another state before the same list

pub over-front : (a s t : List ℕ) → length a ≡ length s → over (a ++ t) 0 s ≡ s ++ t
unfolding over
over-front [] [] t h = over-nil t 0
over-front [] (y ∷ s) t h = absurd (omega arith)
over-front (x ∷ a) [] t h = absurd (omega arith)
over-front (x ∷ a) (y ∷ s) t h = ap (λ (l : List ℕ). y ∷ l) (over-front a s t (omega arith))

module _ (b : List ℕ) (h : is_session b ≡ true) where
  pub list-rest : list_bytes (session_in b).list ≡ drop 41 b
  unfolding session_bytes
  list-rest =
      sym (drop_at (state_bytes (session_in b).st) (list_bytes (session_in b).list) 41 (length-state (session_in b).st))
      ∙ ap (λ (l : List ℕ). drop 41 l) (session-form b h)

  list-kept : list_in (list_bytes (session_in b).list) ≡ (session_in b).list
  unfolding session_in
  list-kept = ap list_in list-rest

  list_length : length (list_bytes (session_in b).list) ≡ 1352
  list_length = rw list-rest (omega (arith, length-drop 41 b, session-length b h))

  pub state-put : (s : State) {d : List ℕ} → d ≡ over b 0 (state_bytes s) → d ≡ session_bytes (with_state b s)
  unfolding session_bytes
  state-put s e =
      e ∙ ap (λ (l : List ℕ). over l 0 (state_bytes s)) (sym (session-form b h))
      ∙ over-front (state_bytes (session_in b).st) (state_bytes s) (list_bytes (session_in b).list) (length-state (session_in b).st ∙ sym (length-state s))

  pub state-back : (s : State) → state_in (state_bytes s) ≡ s → session_in (session_bytes (with_state b s)) ≡ with_state b s
  state-back s e = session-back (with_state b s) e list-kept

  pub state-known : (s : State) → state_in (state_bytes s) ≡ s → is_session (session_bytes (with_state b s)) ≡ true
  state-known s e = session-known (with_state b s) (session-size (with_state b s) list_length) (state-back s e)
