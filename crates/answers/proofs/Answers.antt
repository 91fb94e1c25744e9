-- The laws of a recording's answers: the next one, the rest, and what the code is told.
use mathlib.Core.Path.{◌≡◌, refl, sym, ap, ◌∙◌}
use mathlib.Core.Bool.{Bool, true, false, ◌||◌}
use mathlib.Core.List.{List, [], ◌∷◌}
use mathlib.Core.Logic.{◌⊎◌, inl, inr, ⊎_elim}
use Prim.Native.Nat.{ℕ, zero, suc, ◌+◌, ◌-◌, ◌*◌, ◌%◌, ◌≤◌, ◌<◌}
use native.Mathlib.Nat.{add-zero}
use native.Mathlib.Omega.{arith}
use lib.Dec.{ltb, leb, eqb}
use lib.ListN.{length, take, drop, get_or}
use lib.Seq.{get_or-take, get_or-drop}
use borrow.Author.Tests.{leb-true, leb-false, le-leb, lt-leb, eqb-true, eqb-false, ne_eqb, ltb-true}
use Rattle.slices.specs.Pick.{pick}
use Rattle.slices.specs.Le.{words_for, bytes_of}
use Rattle.slices.proofs.Over.{drop-take}
use Rattle.wlan.specs.declared.BusOp.{BusOp}
use Rattle.definition.specs.Bus as def
use Rattle.answers.specs.declared.Recorded.{Recorded}
use Rattle.bus.specs.Op.{op_of, bare}
use Rattle.answers.specs.Taken.{Taken, told, taken_from, taken_of, seen, taken_for}
use Rattle.std.specs.Prelude.{Ok, Err}
use Rattle.wlan.specs.Results.{fault_at}
use Rattle.answers.specs.declared.NoAnswer.{NoAnswer}

-- ---- an answer's size

pick_pos : (b : Bool) (x y : ℕ) → 1 ≤ x → 1 ≤ y → 1 ≤ pick b x y
pick_pos true x y h k = h
pick_pos false x y h k = k

pub size-pos : (w : ℕ) → 1 ≤ def.size_of w
unfolding def.size_of
size-pos w =
    pick_pos (eqb (def.kind_of w) 2) 2 _ (omega arith)
    (pick_pos (eqb (def.kind_of w) 3) (2 + words_for (w % 65536)) _ (omega arith) (pick_pos (eqb (def.kind_of w) 4 || eqb (def.kind_of w) 5) 3 1 (omega arith) (omega arith)))

pub size-packet : (w : ℕ) → def.kind_of w ≡ 3 → def.size_of w ≡ 2 + words_for (w % 65536)
unfolding def.size_of
size-packet w h = rw h

-- ---- the next answer, and the words after it

abbrev pub size_in : List ℕ → ℕ
size_in ws = def.size_of (get_or ws 0 0)

abbrev pub next_of : List ℕ → def.Answer
next_of ws = def.answer_of (take (size_in ws) ws)

abbrev pub rest_of : List ℕ → List ℕ
rest_of ws = drop (size_in ws) ws

pub head_at : (rec : List ℕ) (pos : ℕ) → get_or (drop pos rec) 0 0 ≡ get_or rec pos 0
head_at rec pos = rw (get_or-drop, add-zero)

skipped : (ws : List ℕ) (n : ℕ) → def.answers_from ws n ≡ def.answers (drop n ws)
unfolding def.answers_from
skipped [] zero = refl
skipped [] (suc n) = refl
skipped (w ∷ ws) zero = refl
skipped (w ∷ ws) (suc n) = skipped ws n

after : (n w : ℕ) (ws : List ℕ) → 1 ≤ n → def.answers_from ws (n - 1) ≡ def.answers (drop n (w ∷ ws))
after zero w ws h = absurd (omega arith)
after (suc n) w ws h =
    let e : suc n - 1 ≡ n = omega arith in
    rw e (skipped ws n)

-- it is not whole
pub answers-none : (ws : List ℕ) → length ws < size_in ws → def.answers ws ≡ []
unfolding def.answers_from
answers-none [] h = refl
answers-none (w ∷ ws) h = rw (lt-leb (def.size_of w) (length (w ∷ ws)) h)

-- it is whole
pub answers_next : (ws : List ℕ) → size_in ws ≤ length ws → def.answers ws ≡ next_of ws ∷ def.answers (rest_of ws)
unfolding def.answers_from
answers_next [] h = absurd (omega (arith, size-pos 0))
answers_next (w ∷ ws) h =
    rw (le-leb (def.size_of w) (length (w ∷ ws)) h) (ap (λ (l : List def.Answer). next_of (w ∷ ws) ∷ l) (after (def.size_of w) w ws (size-pos w)))

by-test : (m n : ℕ) (b : Bool) → leb m n ≡ b → (m ≤ n) ⊎ (n < m)
by-test m n true h = inl (leb-true m n h)
by-test m n false h = inr (leb-false m n h)

pub whole-or-not : (ws : List ℕ) → (size_in ws ≤ length ws) ⊎ (length ws < size_in ws)
whole-or-not ws = by-test (size_in ws) (length ws) (leb (size_in ws) (length ws)) refl

-- ---- what the code is told

told-pick : (b : Bool) (x y : def.Taken) → told (pick b x y) ≡ pick b (told x) (told y)
told-pick true x y = refl
told-pick false x y = refl

by_kind : (q : def.Op) (a : def.Answer) (b : Bool)
    → told (pick b (pick (eqb (def.wants q) 4 || eqb (def.wants q) 5) def.wrong (def.got (def.fault a.value))) (pick (eqb a.kind (def.wants q)) (pick (def.asked q a.value) (def.got (def.val a.value a.bytes)) def.wrong) def.wrong))
    ≡ taken_for q (pick b (Recorded.Fault a.value) (Recorded.Value a.kind a.value))
unfolding taken_for
by_kind q a true = simp told-pick
by_kind q a false = simp told-pick

-- the two steps are one
pub told-seen : (q : def.Op) (a : def.Answer) → told (def.taken_by q a) ≡ taken_for q (seen a)
unfolding def.taken_by
told-seen q a = by_kind q a (eqb a.kind 7)

pub taken_none : (q : def.Op) (ws : List ℕ) → length ws < size_in ws → taken_of q ws ≡ Err NoAnswer.Unrecorded
unfolding taken_from
taken_none q ws h = rw (answers-none ws h)

pub taken_next : (q : def.Op) (ws : List ℕ) → size_in ws ≤ length ws → taken_of q ws ≡ told (def.taken_by q (next_of ws))
unfolding taken_from
taken_next q ws h = rw (answers_next ws h)

by-answers : (p p' : def.Bytes) (s s' : def.Place) (l : List def.Answer) → taken_from (def.Op.write_packet p s) l ≡ taken_from (def.Op.write_packet p' s') l
unfolding taken_from def.taken_by
by-answers p p' s s' [] = refl
by-answers p p' s s' (a ∷ l) = refl

-- no answer depends on the buffer, or on where a passphrase was laid
pub taken-any : (op : BusOp) (b : List ℕ) (ws : List ℕ) → taken_of (op_of op b) ws ≡ taken_of (op_of op []) ws
taken-any BusOp.ReadInterrupt b ws = refl
taken-any BusOp.ReadStatus b ws = refl
taken-any (BusOp.ReadPacket n) b ws = refl
taken-any BusOp.ReadClock b ws = refl
taken-any BusOp.ReadTick b ws = refl
taken-any (BusOp.WritePacket n) b ws = by-answers _ _ _ _ (def.answers ws)
taken-any (BusOp.WriteInterrupt v) b ws = refl
taken-any BusOp.FrameControl b ws = refl
taken-any (BusOp.Wait ns) b ws = refl

pub taken-bare : (q : def.Op) (ws : List ℕ) → taken_of (bare q) ws ≡ taken_of q ws
taken-bare def.Op.read_interrupt ws = refl
taken-bare def.Op.read_status ws = refl
taken-bare (def.Op.read_packet n) ws = refl
taken-bare def.Op.read_clock ws = refl
taken-bare def.Op.read_tick ws = refl
taken-bare (def.Op.write_packet p secret) ws = by-answers _ _ _ _ (def.answers ws)
taken-bare (def.Op.write_interrupt v) ws = refl
taken-bare def.Op.frame_control ws = refl
taken-bare (def.Op.wait ns) ws = refl

-- ---- what was told says what the next answer is

never-told : (t : def.Taken) → told t ≡ Err NoAnswer.Unrecorded → ⊥
never-told def.wrong h = let z : ◌≡◌ {A = ℕ} 0 1 = cc in omega arith
never-told (def.got (def.fault p)) h = let z : ◌≡◌ {A = ℕ} 0 1 = cc in omega arith
never-told (def.got (def.val v b)) h = let z : ◌≡◌ {A = ℕ} 0 1 = cc in omega arith

told-wrong : (t : def.Taken) → told t ≡ Err NoAnswer.Wrong → t ≡ def.wrong
told-wrong def.wrong h = refl
told-wrong (def.got (def.fault p)) h = cc
told-wrong (def.got (def.val v b)) h = cc

-- the place of a fault that was told
place_in : Taken → ℕ
place_in (Ok (Ok v)) = 0
place_in (Ok (Err f)) = f.place
place_in (Err e) = 0

told-fault : (t : def.Taken) (p : ℕ) → told t ≡ Ok (Err (fault_at p)) → t ≡ def.got (def.fault p)
unfolding place_in
told-fault def.wrong p h = cc
told-fault (def.got (def.fault x)) p h = ap (λ (n : ℕ). def.got (def.fault n)) (ap place_in h)
told-fault (def.got (def.val v b)) p h = cc

-- the next answer is whole, and q takes it as t
pub record Next (q : def.Op) (ws : List ℕ) (t : def.Taken) : Type 0 where
  pub whole : size_in ws ≤ length ws
  pub are : def.answers ws ≡ next_of ws ∷ def.answers (rest_of ws)
  pub taken : def.taken_by q (next_of ws) ≡ t

next : (q : def.Op) (ws : List ℕ) (t : def.Taken) → size_in ws ≤ length ws → def.taken_by q (next_of ws) ≡ t → Next q ws t
next q ws t w h = record { whole = w; are = answers_next ws w; taken = h }

-- it is whole, unless the code was told otherwise
decided : (q : def.Op) (ws : List ℕ) (t : def.Taken) → taken_of q ws ≡ told t → (size_in ws ≤ length ws) × (told (def.taken_by q (next_of ws)) ≡ told t)
decided q ws t h = ⊎_elim (λ w. (w, sym (taken_next q ws w) ∙ h)) (λ s. absurd (never-told t (sym h ∙ taken_none q ws s))) (whole-or-not ws)

pub taken-unrecorded : (q : def.Op) (ws : List ℕ) → taken_of q ws ≡ Err NoAnswer.Unrecorded → def.answers ws ≡ []
taken-unrecorded q ws h = ⊎_elim (λ w. absurd (never-told (def.taken_by q (next_of ws)) (sym (taken_next q ws w) ∙ h))) (λ s. answers-none ws s) (whole-or-not ws)

pub taken-wrong : (q : def.Op) (ws : List ℕ) → taken_of q ws ≡ Err NoAnswer.Wrong → Next q ws def.wrong
taken-wrong q ws h =
    let d = decided q ws def.wrong h in
    next q ws def.wrong d.0 (told-wrong (def.taken_by q (next_of ws)) d.1)

pub taken-fault : (q : def.Op) (ws : List ℕ) (p : ℕ) → taken_of q ws ≡ Ok (Err (fault_at p)) → Next q ws (def.got (def.fault p))
taken-fault q ws p h =
    let d = decided q ws (def.got (def.fault p)) h in
    next q ws (def.got (def.fault p)) d.0 (told-fault (def.taken_by q (next_of ws)) p d.1)

-- an answer that gave a value
record Valued (q : def.Op) (a : def.Answer) (v : ℕ) : Type 0 where
  is : def.taken_by q a ≡ def.got (def.val v a.bytes)
  kind : a.kind ≡ def.wants q
  fit : def.asked q a.value ≡ true
  value : a.value ≡ v

by_tests : (s t u w : Bool) (x v : ℕ) (b : def.Bytes)
    → told (pick s (pick t def.wrong (def.got (def.fault x))) (pick u (pick w (def.got (def.val x b)) def.wrong) def.wrong)) ≡ Ok (Ok v)
    → (s ≡ false) × (u ≡ true) × (w ≡ true) × (x ≡ v)
by_tests true true u w x v b h = absurd (let z : ◌≡◌ {A = ℕ} 0 1 = cc in omega arith)
by_tests true false u w x v b h = absurd (let z : ◌≡◌ {A = ℕ} 0 1 = cc in omega arith)
by_tests false t false w x v b h = absurd (let z : ◌≡◌ {A = ℕ} 0 1 = cc in omega arith)
by_tests false t true false x v b h = absurd (let z : ◌≡◌ {A = ℕ} 0 1 = cc in omega arith)
by_tests false t true true x v b h = (refl, refl, refl, cc)

valued : (q : def.Op) (a : def.Answer) (v : ℕ) → told (def.taken_by q a) ≡ Ok (Ok v) → Valued q a v
unfolding def.taken_by
valued q a v h =
    let e = by_tests (eqb a.kind 7) (eqb (def.wants q) 4 || eqb (def.wants q) 5) (eqb a.kind (def.wants q)) (def.asked q a.value) a.value v a.bytes h in
    record {
      is = rw (e.0, e.1, e.2, e.3);
      kind = eqb-true _ _ e.1;
      fit = e.2;
      value = e.3;
    }

told-value : (q : def.Op) (ws : List ℕ) (v : ℕ) → taken_of q ws ≡ Ok (Ok v) → (size_in ws ≤ length ws) × Valued q (next_of ws) v
told-value q ws v h =
    let d = decided q ws (def.got (def.val v [])) h in
    (d.0, valued q (next_of ws) v d.1)

pub taken-value : (q : def.Op) (ws : List ℕ) (v : ℕ) → taken_of q ws ≡ Ok (Ok v) → Next q ws (def.got (def.val v (next_of ws).bytes))
taken-value q ws v h =
    let d = told-value q ws v h in
    next q ws (def.got (def.val v (next_of ws).bytes)) d.0 d.1.is

-- ---- a packet

pick-not : (b : Bool) (x y : def.Answer) → (x.kind ≡ 3 → ⊥) → (y.kind ≡ 3 → ⊥) → (pick b x y).kind ≡ 3 → ⊥
pick-not true x y f g = f
pick-not false x y f g = g

not-packet : (ws : List ℕ) → (def.kind_of (get_or ws 0 0) ≡ 3 → ⊥) → (def.answer_of ws).kind ≡ 3 → ⊥
unfolding def.answer_of
not-packet ws n =
    let k = def.kind_of (get_or ws 0 0) in
    let low = def.low_of (get_or ws 0 0) in
    let no : def.Answer = def.answer 0 0 [] in
    rw (ne_eqb k 3 n)
    (pick-not (eqb k 1) _ _ (pick-not (ltb low 65536) (def.answer 1 low []) no (λ e. omega arith) (λ e. omega arith))
    (pick-not (eqb k 2) _ _ (pick-not (eqb low 0) (def.answer 2 (get_or ws 1 0) []) no (λ e. omega arith) (λ e. omega arith))
    (pick-not (eqb k 4 || eqb k 5) _ _ (pick-not (eqb low 0) (def.answer k (get_or ws 1 0 + 4294967296 * get_or ws 2 0) []) no n (λ e. omega arith))
    (pick-not (eqb k 6) _ _ (pick-not (eqb low 0) (def.answer 6 0 []) no (λ e. omega arith) (λ e. omega arith))
    (pick-not (eqb k 7) _ _ (pick-not (ltb low 10) (def.answer 7 low []) no (λ e. omega arith) (λ e. omega arith)) (λ e. omega arith))))))

-- an answer that is a packet
record Read (ws : List ℕ) : Type 0 where
  head : def.kind_of (get_or ws 0 0) ≡ 3
  low : def.low_of (get_or ws 0 0) < 65536
  is : def.answer_of ws ≡ def.answer 3 (def.low_of (get_or ws 0 0)) (bytes_of (drop 1 ws))

by-low : (ws : List ℕ) (b : Bool) → def.kind_of (get_or ws 0 0) ≡ 3 → ltb (def.low_of (get_or ws 0 0)) 65536 ≡ b → (def.answer_of ws).kind ≡ 3 → Read ws
unfolding def.answer_of
by-low ws true k l h = record { head = k; low = ltb-true _ _ l; is = rw (k, l) }
by-low ws false k l h = absurd (let z : ◌≡◌ {A = ℕ} 0 3 = rw (k, l) at h in omega arith)

by-head : (ws : List ℕ) (b : Bool) → eqb (def.kind_of (get_or ws 0 0)) 3 ≡ b → (def.answer_of ws).kind ≡ 3 → Read ws
by-head ws true k h = by-low ws (ltb (def.low_of (get_or ws 0 0)) 65536) (eqb-true _ _ k) refl h
by-head ws false k h = absurd (not-packet ws (eqb-false _ _ k) h)

-- a packet of the n bytes that were asked for, and its words after the head
pub record Packet (n : ℕ) (ws : List ℕ) (v : ℕ) : Type 0 where
  pub count : v ≡ n
  pub size : size_in ws ≡ 2 + words_for n
  pub bytes : (next_of ws).bytes ≡ bytes_of (take (1 + words_for n) (drop 1 ws))

pub taken-packet : (n : ℕ) (ws : List ℕ) (v : ℕ) → taken_of (def.Op.read_packet n) ws ≡ Ok (Ok v) → Packet n ws v
taken-packet n ws v h =
    let u = (told-value (def.Op.read_packet n) ws v h).1 in
    let r = by-head (take (size_in ws) ws) (eqb (def.kind_of (get_or (take (size_in ws) ws) 0 0)) 3) refl u.kind in
    let first : get_or (take (size_in ws) ws) 0 0 ≡ get_or ws 0 0 = get_or-take (size_in ws) ws 0 0 (size-pos (get_or ws 0 0)) in
    let asked : (next_of ws).value ≡ n = eqb-true _ _ u.fit in
    let low : def.low_of (get_or ws 0 0) ≡ n = rw first at (ap (λ (a : def.Answer). a.value) (sym r.is) ∙ asked) in
    let kind : def.kind_of (get_or ws 0 0) ≡ 3 = rw first at r.head in
    let small : def.low_of (get_or ws 0 0) < 65536 = rw first at r.low in
    let l : get_or ws 0 0 % 65536 ≡ n = omega arith in
    let s : size_in ws ≡ 2 + words_for n = size-packet (get_or ws 0 0) kind ∙ rw l in
    let p : size_in ws ≡ 1 + (1 + words_for n) = omega arith in
    record {
      count = sym u.value ∙ asked;
      size = s;
      bytes = ap (λ (a : def.Answer). a.bytes) r.is ∙ rw p (ap bytes_of (drop-take 1 (1 + words_for n) ws));
    }
