-- Any bytes hold a scan list, and are the bytes of the list that they hold. So only the state's bytes can be no session's.
use mathlib.Core.Path.{◌≡◌, refl, sym, ap, ◌∙◌}
use mathlib.Core.Bool.{Bool, true, false, ◌&&◌, and-true, and_assoc}
use mathlib.Core.List.{List, [], ◌∷◌, ◌++◌}
use Prim.Native.Nat.{ℕ, zero, suc, ◌+◌, ◌*◌, ◌-◌, ◌/◌, ◌%◌, ◌<◌, ◌≤◌}
use native.Mathlib.Omega.{arith}
use lib.Dec.{eqb, ltb}
use lib.IntN.{pos, negsuc}
use lib.ListN.{length, take, drop, get_or, length-drop, take-append-drop}
use lib.Seq.{take_all, take-add, drop-drop, drop-cons, get_or-drop, length-take-le}
use Rattle.slices.specs.Pick.{pick}
use Rattle.slices.specs.Le.{le16, le32, le16_at, le32_at, signed16, signed32}
use Rattle.definition.specs.Scan.{same_bytes}
use Rattle.state_bytes.specs.Numbers.{unsigned16, unsigned32}
use Rattle.state_bytes.specs.StateBytes.{le64, state_bytes, state_in}
use Rattle.state_bytes.proofs.Laws.{length-state}
use Rattle.session_bytes.specs.ListBytes.{tail_bytes, record_bytes, records_bytes, list_bytes, record_of, records_from, list_in}
use Rattle.session_bytes.specs.Session.{session_bytes, session_in}
use Rattle.session_bytes.proofs.Laws.{same_refl}

abbrev pub Bytes : List ℕ → Type 0
Bytes p = (i : ℕ) → get_or p i 0 < 256

rest-bytes : (n : ℕ) (p : List ℕ) → Bytes p → Bytes (drop n p)
rest-bytes n p k i = rw (get_or-drop n p i 0) (k (n + i))

-- ---- numbers

pub two_digits : (a b : ℕ) → a < 256 → b < 256 → le16 (a + 256 * b) ≡ a ∷ b ∷ []
two_digits a b h k =
    let e : (a + 256 * b) % 256 ≡ a = omega arith in
    let f : (a + 256 * b) / 256 % 256 ≡ b = omega arith in
    rw (e, f)

unsigned-pick : (t : Bool) (n : ℕ) → n < 65536 → unsigned16 (pick t (pos n) (negsuc (65535 - n))) ≡ n
unfolding unsigned16
unsigned-pick true n h = refl
unsigned-pick false n h = omega arith

pub unsigned_signed : (n : ℕ) → n < 65536 → unsigned16 (signed16 n) ≡ n
unfolding signed16
unsigned_signed n h = unsigned-pick (ltb n 32768) n h

unsigned-pick32 : (t : Bool) (n : ℕ) → n < 4294967296 → unsigned32 (pick t (pos n) (negsuc (4294967295 - n))) ≡ n
unfolding unsigned32
unsigned-pick32 true n h = refl
unsigned-pick32 false n h = omega arith

pub unsigned-signed32 : (n : ℕ) → n < 4294967296 → unsigned32 (signed32 n) ≡ n
unfolding signed32
unsigned-signed32 n h = unsigned-pick32 (ltb n 2147483648) n h

pub four-digits : (a b c d : ℕ) → a < 256 → b < 256 → c < 256 → d < 256 → le32 (a + 256 * b + 65536 * c + 16777216 * d) ≡ a ∷ b ∷ c ∷ d ∷ []
four-digits a b c d a< b< c< d< =
    let n = a + 256 * b + 65536 * c + 16777216 * d in
    let e₀ : n % 256 ≡ a = omega arith in
    let e₁ : n / 256 % 256 ≡ b = omega arith in
    let e₂ : n / 65536 % 256 ≡ c = omega arith in
    let e₃ : n / 16777216 % 256 ≡ d = omega arith in
    rw (e₀, e₁, e₂, e₃)

pub eight-digits : (a b c d e f g h : ℕ) → a < 256 → b < 256 → c < 256 → d < 256 → e < 256 → f < 256 → g < 256 → h < 256
    → le64 (a + 256 * b + 65536 * c + 16777216 * d + 4294967296 * (e + 256 * f + 65536 * g + 16777216 * h)) ≡ a ∷ b ∷ c ∷ d ∷ e ∷ f ∷ g ∷ h ∷ []
eight-digits a b c d e f g h a< b< c< d< e< f< g< h< =
    let n = a + 256 * b + 65536 * c + 16777216 * d + 4294967296 * (e + 256 * f + 65536 * g + 16777216 * h) in
    let e₀ : n % 256 ≡ a = omega arith in
    let e₁ : n / 256 % 256 ≡ b = omega arith in
    let e₂ : n / 65536 % 256 ≡ c = omega arith in
    let e₃ : n / 16777216 % 256 ≡ d = omega arith in
    let e₄ : n / 4294967296 % 256 ≡ e = omega arith in
    let e₅ : n / 1099511627776 % 256 ≡ f = omega arith in
    let e₆ : n / 281474976710656 % 256 ≡ g = omega arith in
    let e₇ : n / 72057594037927936 % 256 ≡ h = omega arith in
    rw (e₀, e₁, e₂, e₃, e₄, e₅, e₆, e₇)

-- ---- the list

tail-form : (p : List ℕ) → Bytes p → tail_bytes (record_of p) ≡ get_or p 38 0 ∷ get_or p 39 0 ∷ get_or p 40 0 ∷ get_or p 41 0 ∷ []
unfolding tail_bytes record_of
tail-form p k = rw (unsigned_signed (le16_at p 40) (omega (arith, k 40, k 41)), two_digits (get_or p 40 0) (get_or p 41 0) (k 40) (k 41))

four-at : (p : List ℕ) (i : ℕ) → i + 3 < length p → take 4 (drop i p) ≡ get_or p i 0 ∷ get_or p (i + 1) 0 ∷ get_or p (i + 2) 0 ∷ get_or p (i + 3) 0 ∷ []
four-at p i h =
    let e₁ : i + 1 ≡ suc i = omega arith in
    let e₂ : i + 2 ≡ suc (suc i) = omega arith in
    let e₃ : i + 3 ≡ suc (suc (suc i)) = omega arith in
    rw (e₁, e₂, e₃, drop-cons p i 0 (omega arith), drop-cons p (suc i) 0 (omega arith), drop-cons p (suc (suc i)) 0 (omega arith), drop-cons p (suc (suc (suc i))) 0 (omega arith))

record-form : (p : List ℕ) → 42 ≤ length p → Bytes p → record_bytes (record_of p) ≡ take 42 p
unfolding record_bytes record_of
record-form p h k =
    rw (tail-form p k, take-add 32 10 p, take-add 6 4 (drop 32 p), drop-drop 6 32 p, four-at p 38 (omega arith))

records-form : (n : ℕ) (p : List ℕ) → 42 * n ≤ length p → Bytes p → records_bytes (records_from n p) ≡ take (42 * n) p
unfolding records_bytes records_from
records-form zero p h k = refl
records-form (suc n) p h k =
    let e : 42 * suc n ≡ 42 + 42 * n = omega arith in
    rw (record-form p (omega arith) k, records-form n (drop 42 p) (omega (arith, length-drop 42 p)) (rest-bytes 42 p k), e, take-add 42 (42 * n) p)

count-form : (p : List ℕ) → 8 ≤ length p → Bytes p → le64 (le32_at p 0 + 4294967296 * le32_at p 4) ≡ take 8 p
count-form p h k =
    rw (
      eight-digits (get_or p 0 0) (get_or p 1 0) (get_or p 2 0) (get_or p 3 0) (get_or p 4 0) (get_or p 5 0) (get_or p 6 0) (get_or p 7 0) (k 0) (k 1) (k 2) (k 3) (k 4) (k 5) (k 6) (k 7),
      take-add 4 4 p,
      four-at p 0 (omega arith),
      four-at p 4 (omega arith),
    )

list-form : (p : List ℕ) → length p ≡ 1352 → Bytes p → list_bytes (list_in p) ≡ p
unfolding list_bytes list_in
list-form p h k =
    ap (λ (t : List ℕ). t ++ records_bytes (records_from 32 (drop 8 p))) (count-form p (omega arith) k)
    ∙ ap (λ (t : List ℕ). take 8 p ++ t) (records-form 32 (drop 8 p) (omega (arith, length-drop 8 p)) (rest-bytes 8 p k) ∙ take_all 1344 (drop 8 p) (omega (arith, length-drop 8 p)))
    ∙ take-append-drop 8 p

-- ---- the session

-- parts of equal length are compared one by one
pub same_parts : (x y z w : List ℕ) → length x ≡ length y → same_bytes (x ++ z) (y ++ w) ≡ (same_bytes x y && same_bytes z w)
unfolding same_bytes
same_parts [] [] z w h = refl
same_parts [] (b ∷ y) z w h = absurd (omega arith)
same_parts (a ∷ x) [] z w h = absurd (omega arith)
same_parts (a ∷ x) (b ∷ y) z w h = rw (same_parts x y z w (omega arith), and_assoc (eqb a b) (same_bytes x y) (same_bytes z w))

pub same-append : (x y z : List ℕ) → length x ≡ length y → same_bytes (x ++ z) (y ++ z) ≡ same_bytes x y
same-append x y z h = rw (same_parts x y z z h, same_refl z, and-true (same_bytes x y))

pub session-same : (b : List ℕ) → length b ≡ 1393 → Bytes b → same_bytes (state_bytes (state_in b)) (take 41 b) ≡ same_bytes (session_bytes (session_in b)) b
unfolding session_bytes session_in
session-same b h k =
    let s = state_bytes (state_in b) in
    rw (list-form (drop 41 b) (omega (arith, length-drop 41 b)) (rest-bytes 41 b k))
    (sym (same-append s (take 41 b) (drop 41 b) (length-state (state_in b) ∙ sym (length-take-le 41 b (omega arith)))) ∙ ap (λ (l : List ℕ). same_bytes (s ++ drop 41 b) l) (take-append-drop 41 b))
