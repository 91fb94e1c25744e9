-- Which bytes are those of the part that they hold.
use mathlib.Core.Path.{◌≡◌, refl, sym, ap, ◌∙◌}
use mathlib.Core.Bool.{Bool, true, false, ◌&&◌, and-true}
use mathlib.Core.Logic.{◌⊎◌, inl, inr}
use mathlib.Core.List.{List, [], ◌∷◌, ◌++◌}
use Prim.Native.Nat.{ℕ, zero, suc, ◌+◌, ◌*◌, ◌<◌, ◌≤◌}
use native.Mathlib.Omega.{arith}
use borrow.Author.Tests.{eqb-true, eq-eqb, ne_eqb, le-ltb, lt-leb}
use lib.Dec.{eqb, leb, ltb}
use lib.ListN.{length, take, drop, get_or, replicate, length-drop, take-append-drop}
use lib.Seq.{take_all, take-add, drop-drop, drop-cons, length-take-le}
use Rattle.slices.specs.Le.{le32, le32_at}
use Rattle.std.specs.Int.{w32, w64, from_le_bytes}
use Rattle.state_bytes.proofs.Laws.{quad-is, eight-is}
use Rattle.definition.specs.Scan.{same_bytes}
use Rattle.definition.specs.Player.{state_number}
use Rattle.definition.specs.Join.{auth_of}
use Rattle.state_bytes.specs.Numbers.{bit, wifi_of, auth_number}
use Rattle.connect_failure.specs.Parts.{failed, failure_kind, failure_parts, kind_of, failure_of}
use Rattle.state_bytes.specs.Parts.{waiting_reply, reply_parts, reply_of, frame_parts, frame_of, tick_parts, tick_of}
use Rattle.state_bytes.specs.StateBytes.{front_bytes, reply_bytes, frame_bytes, pending_bytes, failure_bytes, tick_bytes, link_bytes, state_bytes, sdpcm_in, reply_in, frame_in, pending_in, failure_in, tick_in, link_in, marks_in, state_in}
use Rattle.session_bytes.specs.Session.{session_bytes, session_in, is_session}
use Rattle.session_bytes.proofs.Laws.{same_refl}
use Rattle.session_bytes.proofs.Form.{Bytes, two_digits, four-digits, eight-digits, unsigned-signed32, same_parts, same-append, session-same}

-- ---- bytes by their index

-- n bytes from k on
abbrev read_from : ℕ → ℕ → List ℕ → List ℕ
read_from zero k p = []
read_from (suc n) k p = get_or p k 0 ∷ read_from n (suc k) p

read_is : (n k : ℕ) (p : List ℕ) → k + n ≤ length p → take n (drop k p) ≡ read_from n k p
read_is zero k p h = refl
read_is (suc n) k p h = rw (drop-cons p k 0 (omega arith), read_is n (suc k) p (omega arith))

rest-is : (n k : ℕ) (p : List ℕ) → length p ≡ k + n → drop k p ≡ read_from n k p
rest-is n k p h = sym (take_all n (drop k p) (omega (arith, length-drop k p))) ∙ read_is n k p (omega arith)

-- bytes whose number is 0 are zeros

zero-next : (a q : ℕ) → eqb (a + 256 * q) 0 ≡ (eqb 0 a && eqb q 0)
zero-next zero zero = refl
zero-next zero (suc q) = rw (ne_eqb (0 + 256 * suc q) 0 (λ e. omega arith), ne_eqb (suc q) 0 (λ e. omega arith))
zero-next (suc a) q = rw (ne_eqb (suc a + 256 * q) 0 (λ e. omega arith), ne_eqb 0 (suc a) (λ e. omega arith))

zeros4 : (a b c d n : ℕ) → n ≡ a + 256 * b + 65536 * c + 16777216 * d → eqb n 0 ≡ same_bytes (0 ∷ 0 ∷ 0 ∷ 0 ∷ []) (a ∷ b ∷ c ∷ d ∷ [])
unfolding same_bytes
zeros4 a b c d n e =
    let q₃ = d + 256 * 0 in
    let q₂ = c + 256 * q₃ in
    let q₁ = b + 256 * q₂ in
    let f : n ≡ a + 256 * q₁ = omega arith in
    rw (f, zero-next a q₁, zero-next b q₂, zero-next c q₃, zero-next d 0)

zeros8 : (a b c d e f g h n m : ℕ) → n ≡ a + 256 * b + 65536 * c + 16777216 * d → m ≡ e + 256 * f + 65536 * g + 16777216 * h
    → eqb (n + 4294967296 * m) 0 ≡ same_bytes (0 ∷ 0 ∷ 0 ∷ 0 ∷ 0 ∷ 0 ∷ 0 ∷ 0 ∷ []) (a ∷ b ∷ c ∷ d ∷ e ∷ f ∷ g ∷ h ∷ [])
unfolding same_bytes
zeros8 a b c d e f g h n m i j =
    let q₇ = h + 256 * 0 in
    let q₆ = g + 256 * q₇ in
    let q₅ = f + 256 * q₆ in
    let q₄ = e + 256 * q₅ in
    let q₃ = d + 256 * q₄ in
    let q₂ = c + 256 * q₃ in
    let q₁ = b + 256 * q₂ in
    let k : n + 4294967296 * m ≡ a + 256 * q₁ = omega arith in
    rw (k, zero-next a q₁, zero-next b q₂, zero-next c q₃, zero-next d q₄, zero-next e q₅, zero-next f q₆, zero-next g q₇, zero-next h 0)

pub four-zeros : (k : ℕ) (p : List ℕ) {n : ℕ} → k + 4 ≤ length p → n ≡ from_le_bytes w32 (take 4 (drop k p)) → eqb n 0 ≡ same_bytes (replicate 4 0) (read_from 4 k p)
four-zeros k p h e = zeros4 (get_or p k 0) (get_or p (suc k) 0) (get_or p (suc (suc k)) 0) (get_or p (suc (suc (suc k))) 0) _ (quad-is (get_or p k 0) (get_or p (suc k) 0) (get_or p (suc (suc k)) 0) (get_or p (suc (suc (suc k))) 0) (rw (read_is 4 k p h) at e))

pub eight-zeros : (k : ℕ) (p : List ℕ) {n : ℕ} → k + 8 ≤ length p → n ≡ from_le_bytes w64 (take 8 (drop k p)) → eqb n 0 ≡ same_bytes (replicate 8 0) (read_from 8 k p)
eight-zeros k p h e =
    let f = rw (read_is 8 k p h) at e in
    rw (eight-is (get_or p k 0) (get_or p (suc k) 0) (get_or p (suc (suc k)) 0) (get_or p (suc (suc (suc k))) 0) (get_or p (suc (suc (suc (suc k)))) 0) (get_or p (suc (suc (suc (suc (suc k))))) 0) (get_or p (suc (suc (suc (suc (suc (suc k)))))) 0) (get_or p (suc (suc (suc (suc (suc (suc (suc k))))))) 0) f) (zeros8 (get_or p k 0) (get_or p (suc k) 0) (get_or p (suc (suc k)) 0) (get_or p (suc (suc (suc k))) 0) (get_or p (suc (suc (suc (suc k)))) 0) (get_or p (suc (suc (suc (suc (suc k))))) 0) (get_or p (suc (suc (suc (suc (suc (suc k)))))) 0) (get_or p (suc (suc (suc (suc (suc (suc (suc k))))))) 0) _ _ refl refl)

both : {a b c d : List ℕ} → a ≡ b → c ≡ d → a ++ c ≡ b ++ d
both e f = rw (e, f)

same_head : (n : ℕ) (x y : List ℕ) → same_bytes (n ∷ x) (n ∷ y) ≡ same_bytes x y
unfolding same_bytes
same_head n x y = rw (eq-eqb n n refl)

other-head : (m n : ℕ) (x y : List ℕ) → (m ≡ n → ⊥) → same_bytes (m ∷ x) (n ∷ y) ≡ false
unfolding same_bytes
other-head m n x y h = rw (ne_eqb m n h)

-- ---- numbers of a few values

mark-over : (n : ℕ) → 1 < n → eqb (bit (eqb n 1)) n ≡ false
unfolding bit
mark-over n h = rw (ne_eqb n 1 (λ e. omega arith)) (ne_eqb 0 n (λ e. omega arith))

mark-test : (n : ℕ) → eqb (bit (eqb n 1)) n ≡ leb n 1
unfolding bit
mark-test zero = refl
mark-test (suc zero) = refl
mark-test (suc (suc n)) = rw (mark-over (suc (suc n)) (omega arith), lt-leb (suc (suc n)) 1 (omega arith))

wifi-over : (n : ℕ) → 3 < n → eqb (state_number (wifi_of n)) n ≡ false
unfolding state_number wifi_of
wifi-over n h = rw (ne_eqb n 0 (λ e. omega arith), ne_eqb n 1 (λ e. omega arith), ne_eqb n 2 (λ e. omega arith)) (ne_eqb 3 n (λ e. omega arith))

wifi-test : (n : ℕ) → eqb (state_number (wifi_of n)) n ≡ leb n 3
unfolding state_number wifi_of
wifi-test zero = refl
wifi-test (suc zero) = refl
wifi-test (suc (suc zero)) = refl
wifi-test (suc (suc (suc zero))) = refl
wifi-test (suc (suc (suc (suc n)))) = wifi-over (suc (suc (suc (suc n)))) (omega arith) ∙ sym (lt-leb (suc (suc (suc (suc n)))) 3 (omega arith))

auth-over : (n : ℕ) → 5 < n → eqb (auth_number (auth_of n)) n ≡ false
unfolding auth_number auth_of
auth-over n h =
    rw (ne_eqb n 0 (λ e. omega arith), ne_eqb n 1 (λ e. omega arith), ne_eqb n 2 (λ e. omega arith), ne_eqb n 3 (λ e. omega arith), ne_eqb n 4 (λ e. omega arith))
    (ne_eqb 5 n (λ e. omega arith))

auth-test : (n : ℕ) → eqb (auth_number (auth_of n)) n ≡ leb n 5
unfolding auth_number auth_of
auth-test zero = refl
auth-test (suc zero) = refl
auth-test (suc (suc zero)) = refl
auth-test (suc (suc (suc zero))) = refl
auth-test (suc (suc (suc (suc zero)))) = refl
auth-test (suc (suc (suc (suc (suc zero))))) = refl
auth-test (suc (suc (suc (suc (suc (suc n)))))) = auth-over (suc (suc (suc (suc (suc (suc n)))))) (omega arith) ∙ sym (lt-leb (suc (suc (suc (suc (suc (suc n)))))) 5 (omega arith))

-- ---- a tag of 0 or 1

same-one : (n : ℕ) (l : List ℕ) → same_bytes (1 ∷ l) (n ∷ l) ≡ eqb n 1
unfolding same_bytes
same-one zero l = refl
same-one (suc zero) l = same_refl l
same-one (suc (suc n)) l = rw (ne_eqb 1 (suc (suc n)) (λ e. omega arith), ne_eqb (suc (suc n)) 1 (λ e. omega arith))

module _ (p : List ℕ) (h : length p ≡ 7) where
  pub front_same : same_bytes (front_bytes (sdpcm_in p) (marks_in p)) p ≡ (leb (get_or p 4 0) 1 && (leb (get_or p 5 0) 1 && leb (get_or p 6 0) 1))
  unfolding same_bytes front_bytes sdpcm_in marks_in
  front_same =
      ap (λ (l : List ℕ). same_bytes (front_bytes (sdpcm_in p) (marks_in p)) l) (rest-is 7 0 p h)
      ∙ rw (eq-eqb (get_or p 0 0) (get_or p 0 0) refl, eq-eqb (get_or p 1 0) (get_or p 1 0) refl, eq-eqb (get_or p 2 0) (get_or p 2 0) refl, eq-eqb (get_or p 3 0) (get_or p 3 0) refl, mark-test (get_or p 4 0), mark-test (get_or p 5 0), mark-test (get_or p 6 0), and-true)

module _ (p : List ℕ) (h : length p ≡ 14) where
  pub reply-none : get_or p 0 0 ≡ 0 → same_bytes (reply_bytes (reply_parts (reply_of (reply_in p)))) (take 9 p) ≡ same_bytes (replicate 8 0) (read_from 8 1 p)
  unfolding same_bytes reply_parts reply_of reply_in
  reply-none e = rw (read_is 9 0 p (omega arith), e)

  pub reply-there : Bytes p → (get_or p 0 0 ≡ 0 → ⊥) → same_bytes (reply_bytes (reply_parts (reply_of (reply_in p)))) (take 9 p) ≡ eqb (get_or p 0 0) 1
  unfolding reply_parts waiting_reply reply_of reply_in
  reply-there k n =
      rw (
        read_is 9 0 p (omega arith),
        ne_eqb (get_or p 0 0) 0 n,
        unsigned-signed32 (le32_at p 5) (omega (arith, k 5, k 6, k 7, k 8)),
        both (two_digits (get_or p 1 0) (get_or p 2 0) (k 1) (k 2)) (both (two_digits (get_or p 3 0) (get_or p 4 0) (k 3) (k 4)) (four-digits (get_or p 5 0) (get_or p 6 0) (get_or p 7 0) (get_or p 8 0) (k 5) (k 6) (k 7) (k 8))),
      )
      (same-one (get_or p 0 0) (read_from 8 1 p))

  pub frame-none : get_or p 9 0 ≡ 0 → same_bytes (frame_bytes (frame_parts (frame_of (frame_in p)))) (drop 9 p) ≡ same_bytes (replicate 4 0) (read_from 4 10 p)
  unfolding same_bytes frame_parts frame_of frame_in
  frame-none e = rw (rest-is 5 9 p h, e)

  pub frame-there : Bytes p → (get_or p 9 0 ≡ 0 → ⊥) → same_bytes (frame_bytes (frame_parts (frame_of (frame_in p)))) (drop 9 p) ≡ eqb (get_or p 9 0) 1
  unfolding frame_parts frame_of frame_in
  frame-there k n =
      rw (
        rest-is 5 9 p h,
        ne_eqb (get_or p 9 0) 0 n,
        both (two_digits (get_or p 10 0) (get_or p 11 0) (k 10) (k 11)) (two_digits (get_or p 12 0) (get_or p 13 0) (k 12) (k 13)),
      )
      (same-one (get_or p 9 0) (read_from 4 10 p))

  pub pending-same : same_bytes (pending_bytes (pending_in p)) p
      ≡ (same_bytes (reply_bytes (reply_parts (reply_of (reply_in p)))) (take 9 p) && same_bytes (frame_bytes (frame_parts (frame_of (frame_in p)))) (drop 9 p))
  unfolding pending_bytes pending_in
  pending-same =
      let r = reply_bytes (reply_parts (reply_of (reply_in p))) in
      let f = frame_bytes (frame_parts (frame_of (frame_in p))) in
      ap (λ (l : List ℕ). same_bytes (r ++ f) l) (sym (take-append-drop 9 p)) ∙ same_parts r (take 9 p) f (drop 9 p) (sym (length-take-le 9 p (omega arith)))

-- ---- the connection

-- a failure with both numbers, or of no known kind
failure-else : (t s r : ℕ) (l : List ℕ) → (t ≡ 0 → ⊥) → (t ≡ 7 → ⊥) → (t ≡ 6 → ⊥) → le32 s ++ le32 r ≡ l → same_bytes (failure_bytes (failure_parts (failure_of (failed t s r)))) (t ∷ l) ≡ ltb t 6
unfolding failure_parts failure_kind failure_of kind_of
failure-else zero s r l a b c e = absurd (a refl)
failure-else (suc zero) s r l a b c e = rw e (same_refl (1 ∷ l))
failure-else (suc (suc zero)) s r l a b c e = rw e (same_refl (2 ∷ l))
failure-else (suc (suc (suc zero))) s r l a b c e = rw e (same_refl (3 ∷ l))
failure-else (suc (suc (suc (suc zero)))) s r l a b c e = rw e (same_refl (4 ∷ l))
failure-else (suc (suc (suc (suc (suc zero))))) s r l a b c e = rw e (same_refl (5 ∷ l))
failure-else (suc (suc (suc (suc (suc (suc zero)))))) s r l a b c e = absurd (c refl)
failure-else (suc (suc (suc (suc (suc (suc (suc zero))))))) s r l a b c e = absurd (b refl)
failure-else (suc (suc (suc (suc (suc (suc (suc (suc n)))))))) s r l a b c e =
    let t = suc (suc (suc (suc (suc (suc (suc (suc n))))))) in
    rw (
      ne_eqb t 0 (λ e. omega arith),
      ne_eqb t 1 (λ e. omega arith),
      ne_eqb t 2 (λ e. omega arith),
      ne_eqb t 3 (λ e. omega arith),
      ne_eqb t 4 (λ e. omega arith),
      ne_eqb t 5 (λ e. omega arith),
      ne_eqb t 6 (λ e. omega arith),
      le-ltb t 6 (omega arith),
    )
    (other-head 7 t _ l (λ e. omega arith))

module _ (p : List ℕ) (h : length p ≡ 20) where
  failure-none : get_or p 2 0 ≡ 0 → same_bytes (failure_bytes (failure_parts (failure_of (failure_in p)))) (take 9 (drop 2 p)) ≡ same_bytes (replicate 8 0) (read_from 8 3 p)
  unfolding same_bytes failure_parts failure_of failure_in
  failure-none e = rw (read_is 9 2 p (omega arith), e)

  failure-timeout : get_or p 2 0 ≡ 7 → same_bytes (failure_bytes (failure_parts (failure_of (failure_in p)))) (take 9 (drop 2 p)) ≡ same_bytes (replicate 8 0) (read_from 8 3 p)
  unfolding same_bytes failure_parts failure_kind failure_of kind_of failure_in
  failure-timeout e = rw (read_is 9 2 p (omega arith), e)

  pub failure-empty : (get_or p 2 0 ≡ 0) ⊎ (get_or p 2 0 ≡ 7) → same_bytes (failure_bytes (failure_parts (failure_of (failure_in p)))) (take 9 (drop 2 p)) ≡ same_bytes (replicate 8 0) (read_from 8 3 p)
  failure-empty (inl e) = failure-none e
  failure-empty (inr e) = failure-timeout e

  pub failure-deauth : Bytes p → get_or p 2 0 ≡ 6 → same_bytes (failure_bytes (failure_parts (failure_of (failure_in p)))) (take 9 (drop 2 p)) ≡ same_bytes (replicate 4 0) (read_from 4 3 p)
  unfolding failure_parts failure_kind failure_of kind_of failure_in
  failure-deauth k e =
      rw (read_is 9 2 p (omega arith), e, four-digits (get_or p 7 0) (get_or p 8 0) (get_or p 9 0) (get_or p 10 0) (k 7) (k 8) (k 9) (k 10))
      (same_head 6 _ _ ∙ same-append (0 ∷ 0 ∷ 0 ∷ 0 ∷ []) (read_from 4 3 p) (read_from 4 7 p) refl)

  pub failure-rest : Bytes p → (get_or p 2 0 ≡ 0 → ⊥) → (get_or p 2 0 ≡ 7 → ⊥) → (get_or p 2 0 ≡ 6 → ⊥)
      → same_bytes (failure_bytes (failure_parts (failure_of (failure_in p)))) (take 9 (drop 2 p)) ≡ ltb (get_or p 2 0) 6
  unfolding failure_in
  failure-rest k a b c =
      ap (λ (l : List ℕ). same_bytes (failure_bytes (failure_parts (failure_of (failure_in p)))) l) (read_is 9 2 p (omega arith))
      ∙ failure-else (get_or p 2 0) (le32_at p 3) (le32_at p 7) (read_from 8 3 p) a b c
      (both (four-digits (get_or p 3 0) (get_or p 4 0) (get_or p 5 0) (get_or p 6 0) (k 3) (k 4) (k 5) (k 6)) (four-digits (get_or p 7 0) (get_or p 8 0) (get_or p 9 0) (get_or p 10 0) (k 7) (k 8) (k 9) (k 10)))

  pub tick-none : get_or p 11 0 ≡ 0 → same_bytes (tick_bytes (tick_parts (tick_of (tick_in p)))) (drop 11 p) ≡ same_bytes (replicate 8 0) (read_from 8 12 p)
  unfolding same_bytes tick_parts tick_of tick_in
  tick-none e = rw (rest-is 9 11 p h, e)

  pub tick-there : Bytes p → (get_or p 11 0 ≡ 0 → ⊥) → same_bytes (tick_bytes (tick_parts (tick_of (tick_in p)))) (drop 11 p) ≡ eqb (get_or p 11 0) 1
  unfolding tick_parts tick_of tick_in
  tick-there k n =
      rw (
        rest-is 9 11 p h,
        ne_eqb (get_or p 11 0) 0 n,
        eight-digits (get_or p 12 0) (get_or p 13 0) (get_or p 14 0) (get_or p 15 0) (get_or p 16 0) (get_or p 17 0) (get_or p 18 0) (get_or p 19 0) (k 12) (k 13) (k 14) (k 15) (k 16) (k 17) (k 18) (k 19),
      )
      (same-one (get_or p 11 0) (read_from 8 12 p))

  pub link-same : same_bytes (link_bytes (link_in p)) p
      ≡ (leb (get_or p 0 0) 3 && (leb (get_or p 1 0) 5
      && (same_bytes (failure_bytes (failure_parts (failure_of (failure_in p)))) (take 9 (drop 2 p)) && same_bytes (tick_bytes (tick_parts (tick_of (tick_in p)))) (drop 11 p))))
  unfolding same_bytes link_bytes link_in
  link-same =
      let w = state_number (wifi_of (get_or p 0 0)) in
      let a = auth_number (auth_of (get_or p 1 0)) in
      let f = failure_bytes (failure_parts (failure_of (failure_in p))) in
      let t = tick_bytes (tick_parts (tick_of (tick_in p))) in
      let e : p ≡ get_or p 0 0 ∷ get_or p 1 0 ∷ (take 9 (drop 2 p) ++ drop 11 p) =
      drop-cons p 0 0 (omega arith) ∙ ap (λ (l : List ℕ). get_or p 0 0 ∷ l) (drop-cons p 1 0 (omega arith))
      ∙ ap (λ (l : List ℕ). get_or p 0 0 ∷ get_or p 1 0 ∷ l) (sym (take-append-drop 9 (drop 2 p)) ∙ ap (λ (l : List ℕ). take 9 (drop 2 p) ++ l) (drop-drop 9 2 p))
      in
      ap (λ (l : List ℕ). same_bytes (w ∷ a ∷ (f ++ t)) l) e
      ∙ ap (λ (b : Bool). eqb w (get_or p 0 0) && (eqb a (get_or p 1 0) && b)) (same_parts f (take 9 (drop 2 p)) t (drop 11 p) (sym (length-take-le 9 (drop 2 p) (omega (arith, length-drop 2 p)))))
      ∙ rw (wifi-test (get_or p 0 0), auth-test (get_or p 1 0))

-- ---- the session

session-parts : (b : List ℕ) → length b ≡ 1393 → Bytes b
    → same_bytes (session_bytes (session_in b)) b
    ≡ (same_bytes (front_bytes (sdpcm_in (take 7 b)) (marks_in (take 7 b))) (take 7 b)
    && (same_bytes (pending_bytes (pending_in (take 14 (drop 7 b)))) (take 14 (drop 7 b)) && same_bytes (link_bytes (link_in (take 20 (drop 21 b)))) (take 20 (drop 21 b))))
unfolding state_bytes state_in front_bytes pending_bytes
session-parts b h k =
    let x = take 7 b in
    let y = take 14 (drop 7 b) in
    let z = take 20 (drop 21 b) in
    let u = front_bytes (sdpcm_in x) (marks_in x) in
    let v = pending_bytes (pending_in y) in
    let w = link_bytes (link_in z) in
    let e : take 41 b ≡ x ++ (y ++ z) = take-add 7 34 b ∙ ap (λ (l : List ℕ). x ++ l) (take-add 14 20 (drop 7 b) ∙ ap (λ (l : List ℕ). y ++ take 20 l) (drop-drop 14 7 b)) in
    sym (session-same b h k) ∙ ap (λ (l : List ℕ). same_bytes (state_bytes (state_in b)) l) e
    ∙ same_parts u x (v ++ w) (y ++ z) (sym (length-take-le 7 b (omega arith)))
    ∙ ap (λ (t : Bool). same_bytes u x && t) (same_parts v y w z (sym (length-take-le 14 (drop 7 b) (omega (arith, length-drop 7 b)))))

module _ (b : List ℕ) (k : Bytes b) where
  abbrev held : Bool
  held =
      same_bytes (front_bytes (sdpcm_in (take 7 b)) (marks_in (take 7 b))) (take 7 b)
      && (same_bytes (pending_bytes (pending_in (take 14 (drop 7 b)))) (take 14 (drop 7 b)) && same_bytes (link_bytes (link_in (take 20 (drop 21 b)))) (take 20 (drop 21 b)))

  long : (v : Bool) → eqb (length b) 1393 ≡ v → is_session b ≡ (v && held)
  unfolding is_session
  long true e = rw (e, session-parts b (eqb-true _ _ e) k)
  long false e = rw e

  pub session-form : is_session b ≡ (eqb (length b) 1393 && held)
  session-form = long (eqb (length b) 1393) refl
