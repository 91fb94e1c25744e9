-- A scan result in an event's bytes: compared with a record's, and laid as one.
use mathlib.Core.Path.{◌≡◌, refl, sym, ap, ◌∙◌}
use mathlib.Core.Bool.{Bool, true, false, ◌&&◌}
use mathlib.Core.List.{List, [], ◌∷◌, ◌++◌}
use Prim.Native.Nat.{ℕ, zero, suc, ◌+◌, ◌-◌, ◌≤◌, ◌<◌, min}
use native.Mathlib.Omega.{arith}
use lib.Dec.{eqb}
use lib.ListN.{length, take, drop, get_or, replicate, length-append, length-replicate}
use lib.Seq.{take-add, take-nil, drop-drop}
use native.Mathlib.Nat.{zero-add, suc-add}
use Rattle.slices.specs.Over.{over}
use Rattle.slices.specs.Le.{le16_at, signed16}
use Rattle.slices.proofs.Over.{over-append, over-hides, length_part}
use Rattle.std.specs.Str.{bytes_eq}
use Rattle.std.specs.List.{list_any, range_with_len}
use Rattle.wlan.specs.declared.ScanRecord.{ScanRecord}
use Rattle.definition.specs.Scan.{same_bytes, same_network, known}
use Rattle.events.proofs.Laws.{same-is}
use Rattle.definition.specs.Event.{scan_result_of}
use Rattle.session_bytes.specs.ListBytes.{tail_bytes, record_bytes, record_of, Whole}
use Rattle.session_bytes.proofs.Laws.{record-whole}
use Rattle.session_bytes.proofs.Form.{Bytes, two_digits, unsigned_signed}
use Rattle.hearing.proofs.Laws.{same_here}

-- ---- the same network

swap : (a b : Bool) → (a && b) ≡ (b && a)
swap true true = refl
swap true false = refl
swap false true = refl
swap false false = refl

assoc : (a b c : Bool) → (a && (b && c)) ≡ ((a && b) && c)
assoc true b c = refl
assoc false b c = refl

-- lists are compared piece by piece
pub pieces : (n m : ℕ) (x y : List ℕ) → bytes_eq (take (n + m) x) (take (n + m) y) ≡ (bytes_eq (take n x) (take n y) && bytes_eq (take m (drop n x)) (take m (drop n y)))
pieces zero m x y = rw zero-add
pieces (suc n) m [] [] = rw (suc-add, take-nil)
pieces (suc n) m [] (b ∷ y) = rw suc-add
pieces (suc n) m (a ∷ x) [] = rw suc-add
pieces (suc n) m (a ∷ x) (b ∷ y) = rw (suc-add, pieces n m x y) (assoc (eqb a b) (bytes_eq (take n x) (take n y)) (bytes_eq (take m (drop n x)) (take m (drop n y))))

pub bssid-pieces : (s e : List ℕ) (at : ℕ) → same_bytes (take 6 (drop (at + 32) s)) (take 6 (drop 68 e)) ≡ (bytes_eq (take 4 (drop (at + 32) s)) (take 4 (drop 68 e)) && bytes_eq (take 2 (drop (at + 36) s)) (take 2 (drop 72 e)))
bssid-pieces s e at =
    let p = pieces 4 2 (drop (at + 32) s) (drop 68 e) in
    let q : at + 32 + 4 ≡ at + 36 = omega arith in
    let u : drop 4 (drop (at + 32) s) ≡ drop (at + 36) s = drop-drop 4 (at + 32) s ∙ ap (λ (k : ℕ). drop k s) q in
    let v : drop 4 (drop 68 e) ≡ drop 72 e = drop-drop 4 68 e in
    same-is (take 6 (drop (at + 32) s)) (take 6 (drop 68 e)) ∙ rw (u, v) at p

-- the record at index at of s, and the event e
pub result-same : (s e : List ℕ) (at : ℕ)
    → same_network (record_of (drop at s)) (scan_result_of e) ≡ (same_bytes (take 6 (drop (at + 32) s)) (take 6 (drop 68 e)) && eqb (get_or s (at + 39) 0) (get_or e 132 0))
unfolding scan_result_of
result-same s e at =
    rw (same_here s at (scan_result_of e)) (swap (eqb (get_or s (at + 39) 0) (get_or e 132 0)) _)

-- a search by index
pub searched : (l : List ScanRecord) (r : ScanRecord) (t : ℕ → Bool) (a : ℕ) → ((i : ℕ) → i < length l → t (a + i) ≡ same_network (get_or l i r) r)
    → list_any t (range_with_len a (length l)) ≡ known l r
unfolding known
searched [] r t a h = refl
searched (x ∷ l) r t a h =
    let start : a + 0 ≡ a = omega arith in
    let here : t a ≡ same_network x r = ap t (sym start) ∙ h 0 (omega arith) in
    rw (here, searched l r t (a + 1) (λ i p. let e : a + 1 + i ≡ a + suc i = omega arith in ap t e ∙ h (suc i) (omega arith)))

-- ---- the record laid

pub ssid-put : (d e : List ℕ) {d₁ d₂ : List ℕ} (at n : ℕ) → length e ≡ 140 → n ≤ 32 → d₁ ≡ over d at (take 32 (drop 79 e)) → d₂ ≡ over d₁ (at + n) (replicate (32 - n) 0)
    → d₂ ≡ over d at (take n (drop 79 e) ++ replicate (32 - n) 0)
ssid-put d e {d₁} {d₂} at n h k e₁ e₂ =
    let x = drop 79 e in
    let u = take n x in
    let z : List ℕ = replicate (32 - n) 0 in
    let l : length u ≡ n = omega (arith, length_part e 79 n) in
    let p : 32 ≡ n + (32 - n) = omega arith in
    let q : take 32 x ≡ u ++ take (32 - n) (drop n x) = ap (λ (m : ℕ). take m x) p ∙ take-add n (32 - n) x in
    e₂
    ∙ (ap (λ (t : List ℕ). over t (at + n) z) (e₁ ∙ ap (λ (t : List ℕ). over d at t) q)
    ∙ (ap (λ (m : ℕ). over (over d at (u ++ take (32 - n) (drop n x))) (at + m) z) (sym l)
    ∙ over-hides d at u (take (32 - n) (drop n x)) z (omega (arith, length-replicate {A = ℕ} (32 - n) 0, length_part x n (32 - n)))))

pub next-put : (d : List ℕ) {d₁ d₂ : List ℕ} (at o : ℕ) (s t : List ℕ) → o ≡ at + length s → d₁ ≡ over d at s → d₂ ≡ over d₁ o t → d₂ ≡ over d at (s ++ t)
next-put d at o s t h e₁ e₂ =
    e₂ ∙ (ap (λ (l : List ℕ). over l o t) e₁ ∙ (ap (λ (m : ℕ). over (over d at s) m t) h ∙ over-append d at s t))

module _ (e : List ℕ) (h : length e ≡ 140) (k : Bytes e) where
  result-tail : tail_bytes (scan_result_of e) ≡ min (get_or e 78 0) 32 ∷ get_or e 132 0 ∷ get_or e 138 0 ∷ get_or e 139 0 ∷ []
  unfolding tail_bytes scan_result_of
  result-tail = rw (unsigned_signed (le16_at e 138) (omega (arith, k 138, k 139)), two_digits (get_or e 138 0) (get_or e 139 0) (k 138) (k 139))

  ssid-size : length (scan_result_of e).ssid ≡ 32
  unfolding scan_result_of
  ssid-size =
      let n = min (get_or e 78 0) 32 in
      omega (arith, length-append (take n (drop 79 e)) (replicate (32 - n) 0), length_part e 79 n, length-replicate {A = ℕ} (32 - n) 0)

  bssid-size : length (scan_result_of e).bssid ≡ 6
  unfolding scan_result_of
  bssid-size = omega (arith, length_part e 68 6)

  rssi-is : signed16 (le16_at e 138) ≡ (scan_result_of e).rssi
  unfolding scan_result_of
  rssi-is = refl

  pub result-whole : Whole (scan_result_of e)
  result-whole = record-whole (scan_result_of e) ssid-size bssid-size (rw result-tail rssi-is)

  pub result-put : (d : List ℕ) {d₁ d₂ : List ℕ} (at n : ℕ) → n ≡ min (get_or e 78 0) 32 → d₁ ≡ over d at (take n (drop 79 e) ++ replicate (32 - n) 0)
      → d₂ ≡ over d₁ (at + 32) (take 6 (drop 68 e) ++ (n ∷ get_or e 132 0 ∷ get_or e 138 0 ∷ get_or e 139 0 ∷ [])) → d₂ ≡ over d at (record_bytes (scan_result_of e))
  unfolding record_bytes scan_result_of
  result-put d at n en e₁ e₂ =
      rw result-tail (next-put d at (at + 32) _ _ (omega (arith, ssid-size)) (rw en at e₁) (rw en at e₂))
