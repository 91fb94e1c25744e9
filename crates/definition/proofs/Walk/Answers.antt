-- A recording's answers bring bytes.
use mathlib.Core.List.{List, [], ◌∷◌}
use Prim.Native.Nat.{ℕ, zero, suc, ◌-◌}
use lib.Dec.{leb}
use lib.ListN.{length, take, drop}
use Rattle.slices.proofs.Pick.{by-pick}
use Rattle.definition.specs.Bus.{Answer, answer_of, answers_from, size_of, Taken, got, wrong, taken_by, Op}
use Rattle.definition.proofs.Answers.{answer_of-by, taken_by-by}
use Rattle.definition.proofs.Bytewise.{Bytewise, bytewise-nil, bytewise-bytes_of}
use Rattle.definition.proofs.Walk.Keeps.{BytesIn}

answer_of-bytewise : (ws : List ℕ) → Bytewise (answer_of ws).bytes
answer_of-bytewise ws = answer_of-by (λ a. Bytewise a.bytes) ws (λ k v n. bytewise-nil) (λ e u. bytewise-bytes_of (drop 1 ws))

abbrev pub AllBytewise : List Answer → Type 0
AllBytewise [] = Unit {0}
AllBytewise (a ∷ l) = Bytewise a.bytes × AllBytewise l

pub answers-bytewise : (ws : List ℕ) (n : ℕ) → AllBytewise (answers_from ws n)
unfolding answers_from
answers-bytewise [] n = tt
answers-bytewise (w ∷ ws) zero =
    by-pick AllBytewise (leb (size_of w) (length (w ∷ ws))) (λ e. (answer_of-bytewise (take (size_of w) (w ∷ ws)), answers-bytewise ws (size_of w - 1))) (λ e. tt)
answers-bytewise (w ∷ ws) (suc n) = answers-bytewise ws n

abbrev pub BytesTaken : Taken → Type 0
BytesTaken (got x) = BytesIn x
BytesTaken wrong = Unit {0}

pub taken-bytewise : (q : Op) (a : Answer) → Bytewise a.bytes → BytesTaken (taken_by q a)
taken-bytewise q a h = taken_by-by BytesTaken q a tt (λ e. tt) (λ e. h)
