use Prim.Native.Nat.{ℕ}
use mathlib.Core.Path.{◌≡◌, refl, ◌∙◌}
use mathlib.Core.List.{List, [], ◌∷◌}
use lib.Dec.{eqb}
use Rattle.std.specs.List.{list_any}
use Rattle.std.proofs.lemmas.Cmp.{nat_eq_equiv}
use Rattle.definition.specs.Calls.{one_of, is_command}
use Rattle.requests.proofs.numbers.is_command.Goals as goal

-- the definition's search is the library's
searched : (n : ℕ) (ms : List ℕ) → list_any (λ m. eqb m n) ms ≡ one_of n ms
unfolding one_of
searched n [] = refl
searched n (m ∷ ms) = rw (nat_eq_equiv.symm m n, searched n ms)

pub returns : goal.returns
unfolding is_command
returns c = c.contains.ensures.value ∙ searched c.args.cmd _
