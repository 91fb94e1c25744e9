-- Demand 3 of the exported functions: each result is the definition's, so the theorem over the definition is theirs.
use mathlib.Core.Path.{◌≡◌, refl, sym, ap, ◌∙◌}
use mathlib.Core.List.{List, ◌∷◌}
use Rattle.wlan.specs.State.{fresh}
use Rattle.wlan.specs.declared.ScanList.{ScanList}
use Rattle.wlan.specs.declared.State.{State}
use Rattle.definition.specs.Bus.{Bytes}
use Rattle.definition.specs.Prog.{World, world}
use Rattle.definition.specs.Run.{End, called, shown}
use Rattle.definition.specs.History.{Given}
use Rattle.secrecy.specs.Secrecy.{Same, seen, observed, history, Every, Came, Idle}
use Rattle.secrecy.proofs.Secrecy.{secrecy}
use Rattle.chains.specs.Chain.{Chain, none, more}
use Rattle.chains.proofs.Chain.{ran-is}
use Rattle.secrecy_calls.specs.CallsSecrecy.{seen_of, compared, Logs, CallsSecrecy}

compared_is : {gs : List Given} {w : World} (c : Chain gs w) → compared c ≡ observed gs w
unfolding compared observed seen
compared_is none = refl
compared_is (more {g} {gs = gs} {w = w} r c) =
    rw (compared_is c) (ap (λ (e : End). seen_of g w e ∷ observed gs (world e.st e.buf e.list)) (ran-is r))

logs : {gs : List Given} {w : World} (c : Chain gs w) → Logs c
unfolding called shown
logs none = tt
logs (more r c) = (ap (λ (e : End). e.log) (ran-is r), logs c)

alike : (gs gs' : List Given) (b : Bytes) (l : ScanList) (s s' : State) → s ≡ fresh → s' ≡ fresh → Same gs gs' → Every Came (history gs (world s b l)) → Every Idle (history gs (world s b l))
    → observed gs (world s b l) ≡ observed gs' (world s' b l)
alike gs gs' b l s s' f f' r came idle = rw (f, f') (secrecy gs gs' b l r (rw f at came) (rw f at idle))

-- the theorem
pub calls-secrecy : CallsSecrecy
calls-secrecy gs gs' b l s s' f f' c c' r came idle =
    (compared_is c ∙ (alike gs gs' b l s s' f f' r came idle ∙ sym (compared_is c')), logs c, logs c')
