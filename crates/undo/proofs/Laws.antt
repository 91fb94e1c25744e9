-- What is put back does not depend on what has changed since it was kept.
use mathlib.Core.Path.{◌≡◌}
use mathlib.Core.Bool.{true}
use mathlib.Core.List.{List, ◌++◌}
use Prim.Native.Nat.{ℕ}
use native.Mathlib.Omega.{arith}
use lib.ListN.{length, take, drop, length-append}
use Rattle.slices.specs.Over.{over}
use Rattle.slices.proofs.Over.{over-whole, length_part}
use Rattle.undo.specs.Undo.{Kept, kept_of, records_kept, back_front, back_session, back_buf}
use Rattle.undo.proofs.Parts.{over-next, over-covers}

-- the work buffer changed where it is kept
pub buf-changed : {u : List ℕ} (b c : List ℕ) → Kept u → length b ≡ 2048 → length c ≡ 2048 → drop (kept_of u) b ≡ drop (kept_of u) c → back_buf u b ≡ back_buf u c
unfolding back_buf
buf-changed {u} b c k hb hc e =
    let n : length (take (kept_of u) (drop 1396 u)) ≡ kept_of u = omega (arith, length_part u 1396 (kept_of u)) in
    over-covers b c (take (kept_of u) (drop 1396 u)) (omega arith) (omega arith) (rw n e)

front-covers : (u s t : List ℕ) → length u ≡ 3444 → length s ≡ 1393 → length t ≡ 1393 → drop 49 s ≡ drop 49 t → back_front u s ≡ back_front u t
front-covers u s t k hs ht e =
    let n : length (take 49 (drop 3 u)) ≡ 49 = omega (arith, length_part u 3 49) in
    over-covers s t (take 49 (drop 3 u)) (omega arith) (omega arith) (rw n e)

-- the session changed before its records
pub front-changed : {u : List ℕ} (s t : List ℕ) → Kept u → length s ≡ 1393 → length t ≡ 1393 → drop 49 s ≡ drop 49 t → back_session u s ≡ back_session u t
unfolding back_session
front-changed {u} s t k hs ht e = rw (front-covers u s t k.len hs ht e)

all_back : (u s : List ℕ) → length u ≡ 3444 → length s ≡ 1393 → over (back_front u s) 49 (take 1344 (drop 52 u)) ≡ take 49 (drop 3 u) ++ take 1344 (drop 52 u)
all_back u s hu hs =
    let f = take 49 (drop 3 u) in
    let r = take 1344 (drop 52 u) in
    rw (over-next s 0 f 49 r (omega (arith, length_part u 3 49))) (over-whole s (f ++ r) (omega (arith, length-append f r, length_part u 3 49, length_part u 52 1344)))

-- the session changed in any way, and its records are kept
pub records-changed : {u : List ℕ} (s t : List ℕ) → Kept u → records_kept u ≡ true → length s ≡ 1393 → length t ≡ 1393 → back_session u s ≡ back_session u t
unfolding back_session
records-changed {u} s t k e hs ht = rw (e, all_back u s k.len hs, all_back u t k.len ht)
