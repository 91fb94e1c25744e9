-- The scan list in a session's bytes: its count and its records, read and laid where they lie.
use mathlib.Core.Path.{◌≡◌, refl, sym, ap, ◌∙◌}
use mathlib.Core.Bool.{true, false, ◌&&◌}
use mathlib.Core.List.{List, [], ◌∷◌, ◌++◌}
use Prim.Native.Nat.{ℕ, zero, suc, ◌+◌, ◌*◌, ◌<◌, ◌≤◌}
use native.Mathlib.Nat.{suc-add}
use native.Mathlib.Omega.{arith}
use borrow.Author.Tests.{lt-ltb, le-ltb}
use lib.Dec.{eqb}
use lib.ListN.{length, take, drop, set, get_or, length-take, length-drop, length-set}
use lib.Seq.{take_at, drop_at, drop-drop, get_or-drop, get_or-take}
use Rattle.slices.specs.Over.{over}
use Rattle.slices.specs.Le.{le16_at, le32_at, signed16}
use Rattle.wlan.specs.declared.ScanRecord.{ScanRecord}
use Rattle.wlan.specs.declared.ScanList.{ScanList}
use Rattle.wlan.specs.declared.State.{State}
use Rattle.definition.specs.Scan.{same_bytes, same_network, known, heard, cleared}
use Rattle.state_bytes.specs.StateBytes.{le64, state_bytes, state_in}
use Rattle.state_bytes.proofs.Laws.{length-state, le64-back}
use Rattle.session_bytes.specs.declared.session.Session.{Session}
use Rattle.session_bytes.specs.ListBytes.{tail_bytes, record_bytes, records_bytes, list_bytes, record_of, records_from, list_in, Whole, EachWhole}
use Rattle.session_bytes.specs.Session.{session_bytes, session_in, is_session, with_state}
use Rattle.session_bytes.proofs.Laws as ses
use Rattle.places.specs.Places.{Holds}
use Rattle.places.proofs.Laws.{holds-bytes}
use Rattle.hearing.specs.Hearing.{with_list, added}

-- ---- where the list is read

pub count-here : (b : List ℕ) → (session_in b).list.count ≡ le32_at b 41 + 4294967296 * le32_at b 45
unfolding session_in list_in
count-here b =
    rw (
      get_or-drop 41 b 0 0,
      get_or-drop 41 b 1 0,
      get_or-drop 41 b 2 0,
      get_or-drop 41 b 3 0,
      get_or-drop 41 b 4 0,
      get_or-drop 41 b 5 0,
      get_or-drop 41 b 6 0,
      get_or-drop 41 b 7 0,
    )

pub record-here : (b : List ℕ) (i : ℕ) (z : ScanRecord) → i < 32 → record_of (drop (49 + 42 * i) b) ≡ get_or (session_in b).list.records i z
unfolding session_in list_in
record-here b i z h =
    let e : 41 + (8 + 42 * i) ≡ 49 + 42 * i = omega arith in
    rw (← e, ← drop-drop (8 + 42 * i) 41 b, ← drop-drop (42 * i) 8 (drop 41 b)) (sym (ses.get_or-from 32 (drop 8 (drop 41 b)) i z h))

pub length-here : (b : List ℕ) → length (session_in b).list.records ≡ 32
unfolding session_in list_in
length-here b = ses.length_from 32 (drop 8 (drop 41 b))

pub same_here : (b : List ℕ) (at : ℕ) (r : ScanRecord) → same_network (record_of (drop at b)) r ≡ (eqb (get_or b (at + 39) 0) r.channel && same_bytes (take 6 (drop (at + 32) b)) r.bssid)
unfolding same_network record_of
same_here b at r = rw (get_or-drop at b 39 0, drop-drop 32 at b)

-- ---- a run laid behind a part

over-behind : (a t : List ℕ) (k : ℕ) (s : List ℕ) → over (a ++ t) (length a + k) s ≡ a ++ over t k s
unfolding over
over-behind [] t k s = ap (λ (n : ℕ). over t n s) (omega arith)
over-behind (x ∷ a) t k s = rw suc-add (ap (λ (l : List ℕ). x ∷ l) (over-behind a t k s))

behind : (a t : List ℕ) (n k : ℕ) (s : List ℕ) → n ≡ length a + k → over (a ++ t) n s ≡ a ++ over t k s
behind a t n k s e = ap (λ (m : ℕ). over (a ++ t) m s) e ∙ over-behind a t k s

-- ---- records

-- one record laid over another
records-set : (l : List ScanRecord) (n : ℕ) (r : ScanRecord) → EachWhole l → length (record_bytes r) ≡ 42 → n < length l → over (records_bytes l) (42 * n) (record_bytes r) ≡ records_bytes (set l n r)
unfolding records_bytes
records-set [] n r w e h = absurd (omega arith)
records-set (x ∷ l) zero r w e h = ses.over-front (record_bytes x) (record_bytes r) (records_bytes l) (w.0.size ∙ sym e)
records-set (x ∷ l) (suc n) r w e h =
    behind (record_bytes x) (records_bytes l) (42 * suc n) (42 * n) (record_bytes r) (omega (arith, w.0.size))
    ∙ ap (λ (t : List ℕ). record_bytes x ++ t) (records-set l n r w.1 e (omega arith))

each_set : (l : List ScanRecord) (n : ℕ) (r : ScanRecord) → EachWhole l → Whole r → EachWhole (set l n r)
each_set [] n r w x = tt
each_set (y ∷ l) zero r w x = (x, w.1)
each_set (y ∷ l) (suc n) r w x = (w.0, each_set l n r w.1 x)

ssid-size : (p : List ℕ) → 42 ≤ length p → length (record_of p).ssid ≡ 32
unfolding record_of
ssid-size p h = omega (arith, length-take 32 p)

bssid-size : (p : List ℕ) → 42 ≤ length p → length (record_of p).bssid ≡ 6
unfolding record_of
bssid-size p h = omega (arith, length-take 6 (drop 32 p), length-drop 32 p)

-- the bytes 40 and 41 are read back
rssi-kept : (p : List ℕ) → 42 ≤ length p → record_bytes (record_of p) ≡ take 42 p → signed16 (le16_at (tail_bytes (record_of p)) 2) ≡ (record_of p).rssi
unfolding record_bytes record_of
rssi-kept p h e =
    let r = record_of p in
    let at : (k : ℕ) → 38 + k < 42 → get_or (tail_bytes r) k 0 ≡ get_or p (38 + k) 0
    = λ k m. sym (ses.tail_at r.ssid r.bssid (tail_bytes r) k (ssid-size p h) (bssid-size p h)) ∙ ap (λ (l : List ℕ). get_or l (38 + k) 0) e ∙ get_or-take 42 p (38 + k) 0 m in
    rw (at 2 (omega arith), at 3 (omega arith))

each_from : (n : ℕ) (p : List ℕ) → 42 * n ≤ length p → records_bytes (records_from n p) ≡ p → EachWhole (records_from n p)
unfolding records_bytes records_from
each_from zero p h e = tt
each_from (suc n) p h e =
    let r = record_of p in
    let t = records_bytes (records_from n (drop 42 p)) in
    let k : 42 ≤ length p = omega arith in
    let s : length (record_bytes r) ≡ 42 = ses.record-size r (ssid-size p k) (bssid-size p k) in (
      ses.record-whole r (ssid-size p k) (bssid-size p k) (rssi-kept p k (sym (take_at (record_bytes r) t 42 s) ∙ ap (λ (l : List ℕ). take 42 l) e)),
      each_from n (drop 42 p) (omega (arith, length-drop 42 p)) (sym (drop_at (record_bytes r) t 42 s) ∙ ap (λ (l : List ℕ). drop 42 l) e),
    )

-- the bytes from 49 on
rest_from : (l : ScanList) (s : State) → drop 49 (session_bytes (record { st = s; list = l })) ≡ records_bytes l.records
unfolding session_bytes list_bytes
rest_from l s = sym (drop-drop 8 41 (state_bytes s ++ list_bytes l)) ∙ ap (λ (t : List ℕ). drop 8 t) (drop_at (state_bytes s) (list_bytes l) 41 (length-state s))

-- ---- the list laid in a session's bytes

module _ (b : List ℕ) (h : is_session b ≡ true) where
  abbrev list : ScanList
  list = (session_in b).list

  abbrev front : List ℕ
  front = state_bytes (session_in b).st

  front-size : length front ≡ 41
  front-size = length-state (session_in b).st

  form : b ≡ front ++ (le64 list.count ++ records_bytes list.records)
  unfolding session_bytes list_bytes
  form = sym (ses.session-form b h)

  each : EachWhole list.records
  unfolding session_in list_in list_bytes
  each =
      each_from 32 (drop 8 (drop 41 b)) (omega (arith, length-drop 8 (drop 41 b), length-drop 41 b, ses.session-length b h))
      (ap (λ (l : List ℕ). drop 8 l) (ses.list-rest b h))

  state-kept : state_in front ≡ (session_in b).st
  unfolding session_bytes session_in
  state-kept = sym (ses.state-front (session_in b).st (list_bytes list)) ∙ ap state_in (ses.session-form b h)

  -- nothing is laid
  same-list : Holds b (with_list b list)
  same-list = record { known = h; back = refl }

  holds : {d : List ℕ} (l : ScanList) → length l.records ≡ 32 → EachWhole l.records → l.count < 18446744073709551616
      → d ≡ front ++ (le64 l.count ++ records_bytes l.records) → Holds d (with_list b l)
  unfolding session_bytes list_bytes
  holds l k w c e =
      let s : Session = with_list b l in
      let back : session_in (session_bytes s) ≡ s = ses.session-back s state-kept (ses.list_back l k w (le64-back l.count c)) in
      record { known = ap is_session e ∙ ses.session-known s (ses.session-size s (ses.list-size l k w)) back; back = ap session_in e ∙ back }

  count-over : (n m : ℕ) (t : List ℕ) → over (front ++ (le64 n ++ t)) 41 (le64 m) ≡ front ++ (le64 m ++ t)
  count-over n m t =
      behind front (le64 n ++ t) 41 0 (le64 m) (omega (arith, front-size))
      ∙ ap (λ (l : List ℕ). front ++ l) (ses.over-front (le64 n) (le64 m) t refl)

  record-over : (n m : ℕ) (r : ScanRecord) → length (record_bytes r) ≡ 42 → n < 32
      → over (front ++ (le64 m ++ records_bytes list.records)) (49 + 42 * n) (record_bytes r) ≡ front ++ (le64 m ++ records_bytes (set list.records n r))
  record-over n m r e k =
      let l = records_bytes list.records in
      behind front (le64 m ++ l) (49 + 42 * n) (8 + 42 * n) (record_bytes r) (omega (arith, front-size))
      ∙ ap (λ (t : List ℕ). front ++ t) (behind (le64 m) l (8 + 42 * n) (42 * n) (record_bytes r) refl)
      ∙ ap (λ (t : List ℕ). front ++ (le64 m ++ t)) (records-set list.records n r each e (omega (arith, length-here b)))

  -- the count is laid
  pub cleared-list : {d : List ℕ} → d ≡ over b 41 (le64 0) → Holds d (with_list b (cleared list))
  unfolding cleared
  cleared-list e =
      holds (cleared list) (length-here b) each (omega arith)
      (e ∙ ap (λ (l : List ℕ). over l 41 (le64 0)) form ∙ count-over list.count 0 (records_bytes list.records))

  -- a record is laid, then the count
  pub added-list : {d₁ d₂ : List ℕ} (n : ℕ) (r : ScanRecord) → Whole r → n ≡ list.count → n < 32
      → d₁ ≡ over b (49 + 42 * n) (record_bytes r) → d₂ ≡ over d₁ 41 (le64 (n + 1)) → Holds d₂ (with_list b (added list r))
  added-list n r w en k e₁ e₂ =
      holds (added list r) (length-set list.records list.count r ∙ length-here b) (each_set list.records list.count r each w) (omega arith)
      (rw (← en) (
      e₂
      ∙ ap (λ (l : List ℕ). over l 41 (le64 (n + 1))) (e₁ ∙ ap (λ (l : List ℕ). over l (49 + 42 * n) (record_bytes r)) form ∙ record-over n list.count r w.size k)
      ∙ count-over list.count (n + 1) (records_bytes (set list.records n r))
      ))

  -- ---- a network that is heard; n is the count

  pub known-list : (r : ScanRecord) {n : ℕ} → n ≡ list.count → known (take n list.records) r ≡ true → Holds b (with_list b (heard list r))
  unfolding heard
  known-list r en k = rw (← en, k) same-list

  pub heard-list : {d : List ℕ} (r : ScanRecord) {n : ℕ} → n ≡ list.count → known (take n list.records) r ≡ false → n < 32
      → Holds d (with_list b (added list r)) → Holds d (with_list b (heard list r))
  unfolding heard
  heard-list r en k m e = rw (rw en at k, lt-ltb list.count 32 (omega arith)) e

  pub full-list : (r : ScanRecord) {n : ℕ} → n ≡ list.count → known (take n list.records) r ≡ false → 32 ≤ n → Holds b (with_list b (heard list r))
  unfolding heard
  full-list r en k m = rw (← en, k, le-ltb _ 32 m) same-list

  -- ---- the bytes from 49 on

  rest-is : drop 49 b ≡ records_bytes list.records
  rest-is = ap (λ (l : List ℕ). drop 49 l) (sym (ses.session-form b h)) ∙ rest_from list (session_in b).st

  -- another state leaves them
  pub records-kept : {d : List ℕ} (s : State) → Holds d (with_state b s) → drop 49 d ≡ drop 49 b
  records-kept s k = ap (λ (l : List ℕ). drop 49 l) (holds-bytes k) ∙ rest_from list s ∙ sym rest-is

  -- and so does a cleared list
  pub cleared-kept : {d : List ℕ} → Holds d (with_list b (cleared list)) → drop 49 d ≡ drop 49 b
  unfolding cleared
  cleared-kept k = ap (λ (l : List ℕ). drop 49 l) (holds-bytes k) ∙ rest_from (cleared list) (session_in b).st ∙ sym rest-is
