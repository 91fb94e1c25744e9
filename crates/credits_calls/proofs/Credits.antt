-- Credits never overdrawn, of the exported functions: each result is the definition's, so the theorem over the definition is theirs.
use mathlib.Core.Path.{◌≡◌, sym, subst}
use mathlib.Core.List.{List}
use native.Mathlib.Omega.{arith}
use Rattle.wlan.specs.State.{fresh}
use Rattle.wlan.specs.declared.ScanList.{ScanList}
use Rattle.wlan.specs.declared.State.{State}
use Rattle.definition.specs.Bus.{Bytes}
use Rattle.definition.specs.Prog.{World, world}
use Rattle.definition.specs.Run.{End}
use Rattle.definition.specs.History.{Given, history_of, counted, Along}
use Rattle.definition.specs.Credits.{Tally, tally, count, Granted, Covered, CreditIsByte}
use Rattle.definition.proofs.Credits.{never-overdrawn}
use Rattle.chains.specs.Chain.{Lent, Chain, none, more}
use Rattle.chains.proofs.Chain.{ran-is}
use Rattle.credits_calls.specs.CallsCredits.{CreditRead, Kept, CallsNeverOverdrawn}

kept : {gs : List Given} {w : World} (c : Chain gs w) (t : Tally) → Along count Covered Granted gs w t → Kept c t
kept none t h = h
kept (more {g} {gs = gs} {w = w} r c) t h =
    let u = counted count (history_of g w) t in
    (h.0, (h.1.0, kept c u (subst (λ (e : End). Along count Covered Granted gs (world e.st e.buf e.list) u) (sym (ran-is r)) h.1.1)))

from-fresh : (gs : List Given) (b : Bytes) (l : ScanList) (s : State) → CreditIsByte b → s ≡ fresh → Along count Covered Granted gs (world s b l) (tally 0 0)
from-fresh gs b l s h f = rw f (never-overdrawn gs b l h)

-- the byte that was read
credit-byte : (buf : Lent) → CreditRead buf → CreditIsByte buf.now
credit-byte buf r = omega (arith, r.read, r.widened.0, r.widened.1)

-- the theorem
pub calls-never-overdrawn : CallsNeverOverdrawn
calls-never-overdrawn gs buf l s f r c = kept c (tally 0 0) (from-fresh gs buf.now l s (credit-byte buf r) f)
