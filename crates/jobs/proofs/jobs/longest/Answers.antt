use Prim.Native.Nat.{ℕ}
use mathlib.Core.Path.{◌≡◌, refl}
use native.Mathlib.Omega.{arith}
use borrow.Author.Rules.{rules}
use Rattle.jobs.specs.declared.ExchangeCall.{ExchangeCall}
use Rattle.jobs.specs.Jobs.{no_lens, longest}
use Rattle.jobs.proofs.jobs.longest.Goals as goal

none : (c : ExchangeCall) → ((n : ℕ) → c ≡ ExchangeCall.Connect n → ⊥) → ((n : ℕ) → c ≡ ExchangeCall.WriteIovar n → ⊥) → no_lens ≡ longest c
unfolding longest
none (ExchangeCall.Connect n) n1 n2 = absurd (n1 n refl)
none (ExchangeCall.WriteIovar n) n1 n2 = absurd (n2 n refl)
none _ n1 n2 = refl

pub returns-in-Connect-clause-is : goal.returns-in-Connect-clause-is
unfolding longest
returns-in-Connect-clause-is c = search rules

pub returns-in-WriteIovar-clause-is : goal.returns-in-WriteIovar-clause-is
unfolding longest
returns-in-WriteIovar-clause-is c = search rules

pub returns-in_default : goal.returns-in_default
returns-in_default c = record { is = none c.args.c c.in_default.not-Connect c.in_default.not-WriteIovar; most = (omega arith, omega arith) }
