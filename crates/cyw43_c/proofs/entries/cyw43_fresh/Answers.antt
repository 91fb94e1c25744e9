use mathlib.Core.Path.{refl}
use borrow.Author.Tests.{eq-eqb, ne_eqb}
use Rattle.cyw43_c.proofs.entries.cyw43_fresh.Goals as goal

-- Bytes of another length are refused with 100;
-- they are as they were.
pub returns-in_default : goal.returns-in_default
returns-in_default c = rw (ne_eqb _ _ c.in_default.ensures.cases) (refl, refl)

pub returns : goal.returns
returns c = rw (eq-eqb _ _ c.in-Some.ensures.cases.long) (refl, c.put_fresh.ensures.put)
