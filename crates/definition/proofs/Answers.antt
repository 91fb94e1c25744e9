-- What a recorded answer brings, a packet its bytes, any other none; and what an operation is given of it.
use mathlib.Core.Path.{◌≡◌, refl, sym}
use mathlib.Core.Bool.{◌||◌}
use mathlib.Core.List.{List, []}
use Prim.Native.Nat.{ℕ, ◌+◌, ◌*◌, ◌<◌}
use native.Mathlib.Omega.{arith}
use borrow.Author.Tests.{eqb-true, eqb-false, ltb-true}
use lib.Dec.{ltb, eqb}
use lib.ListN.{drop, get_or}
use Rattle.slices.specs.Le.{bytes_of}
use Rattle.slices.proofs.Pick.{by-pick}
use Rattle.definition.specs.Bus.{Op, wants, asked, Answer, answer, answer_of, kind_of, low_of, fault, val, Taken, got, wrong, taken_by}

-- by the head's kind and its low bits: an answer that none takes, one of the head's kind that brings no bytes, a packet
pub answer_of-kinds : (P : Answer → Type 0) (ws : List ℕ) → P (answer 0 0 []) → ((k v : ℕ) → (k ≡ 3 → ⊥) → k ≡ kind_of (get_or ws 0 0) → P (answer k v []))
    → (kind_of (get_or ws 0 0) ≡ 3 → low_of (get_or ws 0 0) < 65536 → P (answer 3 (low_of (get_or ws 0 0)) (bytes_of (drop 1 ws)))) → P (answer_of ws)
unfolding answer_of
answer_of-kinds P ws none other packet =
    by-pick P (eqb k 1) (λ e. by-pick P (ltb low 65536) (λ u. other 1 low (λ v. omega arith) (sym (eqb-true k 1 e))) (λ u. none))
    (λ e. by-pick P (eqb k 2) (λ e. by-pick P (eqb low 0) (λ u. other 2 (get_or ws 1 0) (λ v. omega arith) (sym (eqb-true k 2 e))) (λ u. none))
    (λ e. by-pick P (eqb k 3) (λ e. by-pick P (ltb low 65536) (λ u. packet (eqb-true k 3 e) (ltb-true low 65536 u)) (λ u. none))
    (λ e. by-pick P (eqb k 4 || eqb k 5) (λ f. by-pick P (eqb low 0) (λ u. other k (get_or ws 1 0 + 4294967296 * get_or ws 2 0) (eqb-false k 3 e) refl) (λ u. none))
    (λ e. by-pick P (eqb k 6) (λ e. by-pick P (eqb low 0) (λ u. other 6 0 (λ v. omega arith) (sym (eqb-true k 6 e))) (λ u. none))
    (λ e. by-pick P (eqb k 7) (λ e. by-pick P (ltb low 10) (λ u. other 7 low (λ v. omega arith) (sym (eqb-true k 7 e))) (λ u. none)) (λ e. none))))))
  where
    k : ℕ
    k = kind_of (get_or ws 0 0)

    low : ℕ
    low = low_of (get_or ws 0 0)

-- where only a packet's kind matters
pub answer_of-by : (P : Answer → Type 0) (ws : List ℕ) → ((k v : ℕ) → (k ≡ 3 → ⊥) → P (answer k v []))
    → (kind_of (get_or ws 0 0) ≡ 3 → low_of (get_or ws 0 0) < 65536 → P (answer 3 (low_of (get_or ws 0 0)) (bytes_of (drop 1 ws)))) → P (answer_of ws)
answer_of-by P ws other packet = answer_of-kinds P ws (other 0 0 (λ v. omega arith)) (λ k v n e. other k v n) packet

-- by the answer's kind: a wrong one, a fault, the operation's own
pub taken_by-by : (P : Taken → Type 0) (q : Op) (a : Answer) → P wrong → (a.kind ≡ 7 → P (got (fault a.value))) → (a.kind ≡ wants q → P (got (val a.value a.bytes))) → P (taken_by q a)
unfolding taken_by
taken_by-by P q a none faulted own =
    by-pick P (eqb a.kind 7) (λ e. by-pick P (eqb (wants q) 4 || eqb (wants q) 5) (λ u. none) (λ u. faulted (eqb-true a.kind 7 e)))
    (λ e. by-pick P (eqb a.kind (wants q)) (λ u. by-pick P (asked q a.value) (λ v. own (eqb-true a.kind (wants q) u)) (λ v. none)) (λ u. none))
