-- What the stores of a keeping function leave to be put back.
use mathlib.Core.Path.{◌≡◌, ap, ◌∙◌}
use mathlib.Core.Bool.{true, false}
use mathlib.Core.List.{List, [], ◌∷◌, ◌++◌}
use Prim.Native.Nat.{ℕ, ◌+◌, ◌*◌, ◌/◌, ◌%◌, ◌≤◌, ◌<◌, min}
use native.Mathlib.Omega.{arith}
use lib.ListN.{length, take, drop, get_or, length-take}
use Rattle.slices.specs.Over.{over}
use Rattle.slices.specs.Le.{le16}
use Rattle.slices.proofs.Over.{length_over, over-nil, length_part, get_or-over-in, get_or-over-before, get_or-over-after}
use Rattle.undo.specs.Undo.{Kept, kept_of, records_kept, back_session, back_buf}
use Rattle.undo.proofs.Parts.{drop-over-past, part-before, part_in, part-with, over-own, over-next, over-more}

-- the session's front, and nothing else
module _ (u s : List ℕ) (hu : length u ≡ 3444) (hs : length s ≡ 1393) where
  abbrev pub fronted : List ℕ
  fronted = over (over u 0 (0 ∷ 0 ∷ 0 ∷ [])) 3 (take 49 s)

  mark : (i : ℕ) → i < 3 → get_or fronted (0 + i) 0 ≡ get_or (0 ∷ 0 ∷ 0 ∷ []) i 0
  mark i h =
      get_or-over-before (over u 0 (0 ∷ 0 ∷ 0 ∷ [])) 3 (take 49 s) (0 + i) 0 (omega arith) ∙ get_or-over-in u 0 (0 ∷ 0 ∷ 0 ∷ []) i 0 (omega arith) h

  front-part : take 49 (drop 3 fronted) ≡ take 49 s
  front-part =
      part_in (over u 0 (0 ∷ 0 ∷ 0 ∷ [])) 3 49 (take 49 s) (omega (arith, length-take 49 s)) (omega (arith, length_over u 0 (0 ∷ 0 ∷ 0 ∷ [])))

  pub front_kept : Kept fronted × (kept_of fronted ≡ 0) × (records_kept fronted ≡ false) × (back_session fronted s ≡ s) × ((b : List ℕ) → back_buf fronted b ≡ b)
  unfolding back_session back_buf
  front_kept =
      let a : get_or fronted 0 0 ≡ 0 = mark 0 (omega arith) in
      let b : get_or fronted 1 0 ≡ 0 = mark 1 (omega arith) in
      let c : get_or fronted 2 0 ≡ 0 = mark 2 (omega arith) in
      (record { len = rw (length_over, length_over, hu); most = omega arith; whole = omega arith }, omega arith, rw c, rw (c, front-part) (over-own s 0 49), λ l. rw (a, b, over-nil))

-- the same is put back into a session where the three parts are the same
same-session : (u v s : List ℕ) → get_or v 2 0 ≡ get_or u 2 0 → take 49 (drop 3 v) ≡ take 49 (drop 3 u) → take 1344 (drop 52 v) ≡ take 1344 (drop 52 u) → back_session v s ≡ back_session u s
unfolding back_session
same-session u v s e f g = rw (e, f, g)

-- 8 * k bytes more of the work buffer
module _ (u b : List ℕ) (n k : ℕ) (h : Kept u) (hb : length b ≡ 2048) (en : n ≡ kept_of u) (hn : n + 8 * k ≤ 2048) where
  abbrev run : List ℕ
  run = take (8 * k) (drop n b)

  abbrev laid : List ℕ
  laid = over u (1396 + n) run

  abbrev pub more : List ℕ
  more = over laid 0 (le16 (n + 8 * k))

  count : (i : ℕ) → i < 2 → get_or more (0 + i) 0 ≡ get_or (le16 (n + 8 * k)) i 0
  count i q = get_or-over-in laid 0 (le16 (n + 8 * k)) i 0 (omega (arith, length_over u (1396 + n) run, h.len)) q

  more-count : kept_of more ≡ n + 8 * k
  more-count =
      let a : get_or more 0 0 ≡ (n + 8 * k) % 256 = count 0 (omega arith) in
      let b : get_or more 1 0 ≡ (n + 8 * k) / 256 % 256 = count 1 (omega arith) in
      omega arith

  more-kept : Kept more
  more-kept =
      let l : length more ≡ 3444 = rw (length_over, length_over, h.len) in
      record { len = l; most = omega (arith, more-count); whole = omega (arith, more-count, h.whole) }

  -- what lies past the count and before the work buffer is as it was
  as_it_was : (a m : ℕ) → 2 ≤ a → a + m ≤ 1396 → take m (drop a more) ≡ take m (drop a u)
  as_it_was a m p q = rw (drop-over-past a laid 0 (le16 (n + 8 * k)) (omega arith)) (part-before u a m (1396 + n) run (omega arith))

  mark-same : get_or more 2 0 ≡ get_or u 2 0
  mark-same = get_or-over-after laid 0 (le16 (n + 8 * k)) 2 0 (omega arith) ∙ get_or-over-before u (1396 + n) run 2 0 (omega arith)

  more-session : (s : List ℕ) → back_session more s ≡ back_session u s
  more-session s = same-session u more s mark-same (as_it_was 3 49 (omega arith) (omega arith)) (as_it_was 52 1344 (omega arith) (omega arith))

  more-part : take (n + 8 * k) (drop 1396 more) ≡ take n (drop 1396 u) ++ run
  more-part =
      let r : 8 * k ≡ length run = omega (arith, length_part b n (8 * k)) in
      rw (drop-over-past 1396 laid 0 (le16 (n + 8 * k)) (omega arith)) (ap (λ (m : ℕ). take (n + m) (drop 1396 laid)) r ∙ part-with u 1396 n run (omega (arith, h.len)))

  more-buf : back_buf more b ≡ back_buf u b
  unfolding back_buf
  more-buf =
      ap (λ (m : ℕ). over b 0 (take m (drop 1396 more))) more-count
      ∙ ap (λ (l : List ℕ). over b 0 l) more-part
      ∙ over-more b (take n (drop 1396 u)) n (8 * k) (omega (arith, length_part u 1396 n, h.len))
      ∙ ap (λ (m : ℕ). over b 0 (take m (drop 1396 u))) en

  pub more-all : (to : ℕ) → min to 2048 ≤ n + 8 * k
      → Kept more × (min to 2048 ≤ kept_of more) × ((s : List ℕ) → back_session more s ≡ back_session u s) × (back_buf more b ≡ back_buf u b) × (kept_of u ≤ kept_of more) × (records_kept more ≡ records_kept u)
  more-all to q = (more-kept, rw more-count q, more-session, more-buf, omega (arith, more-count), rw mark-same)

-- the session's records
module _ (u s : List ℕ) (h : Kept u) (hs : length s ≡ 1393) (no : records_kept u ≡ false) where
  abbrev records : List ℕ
  records = over u 52 (take 1344 (drop 49 s))

  abbrev pub full : List ℕ
  full = over records 2 (1 ∷ [])

  flag : get_or full 2 0 ≡ 1
  flag = get_or-over-in records 2 (1 ∷ []) 0 0 (omega (arith, length_over u 52 (take 1344 (drop 49 s)), h.len)) (omega arith)

  count_same : (i : ℕ) → i < 2 → get_or full i 0 ≡ get_or u i 0
  count_same i q = get_or-over-before records 2 (1 ∷ []) i 0 q ∙ get_or-over-before u 52 (take 1344 (drop 49 s)) i 0 (omega arith)

  full-count : kept_of full ≡ kept_of u
  full-count = rw (count_same 0 (omega arith), count_same 1 (omega arith))

  full-kept : Kept full
  full-kept =
      let l : length full ≡ 3444 = rw (length_over, length_over, h.len) in
      record { len = l; most = omega (arith, full-count, h.most); whole = rw full-count h.whole }

  long : length (take 1344 (drop 49 s)) ≡ 1344
  long = omega (arith, length_part s 49 1344)

  full-buf : (b : List ℕ) → back_buf full b ≡ back_buf u b
  unfolding back_buf
  full-buf b = rw (full-count, drop-over-past 1396 records 2 (1 ∷ []) (omega arith), drop-over-past 1396 u 52 (take 1344 (drop 49 s)) (omega (arith, long)))

  full-session : back_session full s ≡ back_session u s
  unfolding back_session
  full-session =
      let f : take 49 (drop 3 full) ≡ take 49 (drop 3 u) = rw (drop-over-past 3 records 2 (1 ∷ []) (omega arith)) (part-before u 3 49 52 (take 1344 (drop 49 s)) (omega arith)) in
      let r : take 1344 (drop 52 full) ≡ take 1344 (drop 49 s) = rw (drop-over-past 52 records 2 (1 ∷ []) (omega arith)) (part_in u 52 1344 (take 1344 (drop 49 s)) long (omega (arith, h.len))) in
      let n : length (take 49 (drop 3 u)) ≡ 49 = omega (arith, length_part u 3 49, h.len) in
      rw (flag, f, r, no) (over-next s 0 (take 49 (drop 3 u)) 49 (take 1344 (drop 49 s)) (omega arith) ∙ over-more s (take 49 (drop 3 u)) 49 1344 n)

  pub full-all : Kept full × (records_kept full ≡ true) × (kept_of full ≡ kept_of u) × ((b : List ℕ) → back_buf full b ≡ back_buf u b) × (back_session full s ≡ back_session u s)
  full-all = (full-kept, rw flag, full-count, full-buf, full-session)
