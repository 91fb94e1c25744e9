use borrow.Author.Rules.{rules}
use mathlib.Core.Path.{refl}
use borrow.Author.Tests.{le-leb, lt-leb}
use native.Mathlib.Omega.{arith}
use Rattle.jobs.specs.Jobs as to
use Rattle.jobs.proofs.jobs.at_most.Goals as goal

pub returns-then-n-max : goal.returns-then-n-max
unfolding to.cut
returns-then-n-max c = record { cut = rw (le-leb _ _ c.if-n-max.true); most = (λ h. refl, search rules, search rules) }

pub returns-else-n-max : goal.returns-else-n-max
unfolding to.cut
returns-else-n-max c = record { cut = rw (lt-leb _ _ c.if-n-max.false); most = (λ h. omega (arith, c.if-n-max.false, h), search rules, search rules) }
