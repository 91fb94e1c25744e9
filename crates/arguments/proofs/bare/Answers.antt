use Rattle.arguments.proofs.Lent.{whole-lies, whole-ends}
use mathlib.Core.Path.{◌≡◌, sym, ◌∙◌}
use mathlib.Core.Bool.{Bool, true, false}
use mathlib.Core.List.{List}
use Prim.Native.Nat.{ℕ}
use native.Mathlib.Omega.{arith}
use lib.Dec.{eqb}
use lib.ListN.{length}
use borrow.Author.Tests.{eqb-true, eqb-false}
use Rattle.arguments.proofs.Numbered.{scan-is, leave-is, abort-is, poll-is, mac-is, bare-bad, up_is}
use Rattle.arguments.proofs.bare.Goals as goal

none : (a : List ℕ) (t : Bool) → t ≡ eqb (length a) 0 → t ≡ true → length a ≡ 0
none a t e h = eqb-true (length a) 0 (sym e ∙ h)

some : (a : List ℕ) (t : Bool) → t ≡ eqb (length a) 0 → t ≡ false → length a ≡ 0 → ⊥
some a t e h = eqb-false (length a) 0 (sym e ∙ h)

pub returns-then-not-is_empty-clause-reads : goal.returns-then-not-is_empty-clause-reads
returns-then-not-is_empty-clause-reads c = bare-bad c.args.call c.args.args.now c.requires (some c.args.args.now _ c.is_empty.ensures c.if-not-is_empty.true)

pub returns-in-2-clause-reads : goal.returns-in-2-clause-reads
returns-in-2-clause-reads c = scan-is c.args.call c.args.args.now _ _ c.in-2.is (none c.args.args.now _ c.is_empty.ensures c.if-not-is_empty.false)

pub returns-in-4-clause-reads : goal.returns-in-4-clause-reads
returns-in-4-clause-reads c = leave-is c.args.call c.args.args.now _ _ c.in-4.is (none c.args.args.now _ c.is_empty.ensures c.if-not-is_empty.false)

pub returns-in-5-clause-reads : goal.returns-in-5-clause-reads
returns-in-5-clause-reads c = abort-is c.args.call c.args.args.now _ _ c.in-5.is (none c.args.args.now _ c.is_empty.ensures c.if-not-is_empty.false)

pub returns-in-6-clause-reads : goal.returns-in-6-clause-reads
returns-in-6-clause-reads c = poll-is c.args.call c.args.args.now c.in-6.is (none c.args.args.now _ c.is_empty.ensures c.if-not-is_empty.false)

pub returns-in-10-clause-reads : goal.returns-in-10-clause-reads
returns-in-10-clause-reads c = mac-is c.args.call c.args.args.now _ _ c.in-10.is (none c.args.args.now _ c.is_empty.ensures c.if-not-is_empty.false)

pub returns-in_default-clause-reads : goal.returns-in_default-clause-reads
returns-in_default-clause-reads c =
    up_is c.args.call c.args.args.now c.requires _ _ (λ e. omega arith) (λ e. omega arith) (λ e. omega arith) (λ e. omega arith) (λ e. omega arith)
    (none c.args.args.now _ c.is_empty.ensures c.if-not-is_empty.false)

pub returns-in-2-clause-lent : goal.returns-in-2-clause-lent
returns-in-2-clause-lent c = (whole-lies c.args.args.now, whole-ends c.args.args.now)

pub returns-in-4-clause-lent : goal.returns-in-4-clause-lent
returns-in-4-clause-lent c = (whole-lies c.args.args.now, whole-ends c.args.args.now)

pub returns-in-5-clause-lent : goal.returns-in-5-clause-lent
returns-in-5-clause-lent c = (whole-lies c.args.args.now, whole-ends c.args.args.now)

pub returns-in-10-clause-lent : goal.returns-in-10-clause-lent
returns-in-10-clause-lent c = (whole-lies c.args.args.now, whole-ends c.args.args.now)

pub returns-in_default-clause-lent : goal.returns-in_default-clause-lent
returns-in_default-clause-lent c = (whole-lies c.args.args.now, whole-ends c.args.args.now)
