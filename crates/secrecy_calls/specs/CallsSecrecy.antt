-- Demand 3 of the exported functions: a run is a chain of their results.
use Rattle.std.specs.Prelude.{◌≡◌, List, [], ◌∷◌, map, ℕ}
use Rattle.slices.specs.Over.{over}
use Rattle.wlan.specs.declared.ScanList.{ScanList}
use Rattle.wlan.specs.declared.State.{State}
use Rattle.definition.specs.Bus.{Bytes, Op, log_of}
use Rattle.definition.specs.Prog.{World, world}
use Rattle.definition.specs.Run.{End}
use Rattle.definition.specs.History.{Given, history_of}
use Rattle.chains.specs.Chain.{Chain, none, more}
use Rattle.secrecy.specs.Secrecy.{Same, Seen, blot, history, Every, Came, Idle}
use Rattle.cyw43.proofs.fresh.fresh_state.Reads as fresh-state

-- ---- what is compared

-- the words that a call's operations, or what is seen of them, leave in the log
abbrev pub logged : Given → List Op → List ℕ
logged g ops = over g.log 0 (log_of ops)

-- what is compared of a call: what it handed back, and its log but for the hidden bytes
abbrev pub seen_of : Given → World → End → Seen
seen_of g w e =
    record {
      outcome = e.outcome;
      output = e.output;
      list = e.list;
      st = e.st;
      len = e.len;
      log = logged g (map blot (history_of g w).ops);
    }

unfoldable pub compared : {gs : List Given} {w : World} → Chain gs w → List Seen
compared none = []
compared (more {g} {w = w} {e = e} r c) = seen_of g w e ∷ compared c

-- the log that each call left is the words of those operations
abbrev pub Logs : {gs : List Given} {w : World} → Chain gs w → Type 0
Logs none = Unit {0}
Logs (more {g} {w = w} {e = e} r c) = (e.log ≡ logged g (history_of g w).ops) × Logs c

-- ---- the statement

-- two runs from fresh states, with the same work buffer and scan list, that are given the same but for passphrase bytes
abbrev pub CallsSecrecy : Type 0
CallsSecrecy =
    (gs gs' : List Given) (b : Bytes) (l : ScanList) (s s' : State) → fresh-state.Post tt tt s tt → fresh-state.Post tt tt s' tt
    → (c : Chain gs (world s b l)) (c' : Chain gs' (world s' b l)) → Same gs gs'
    → Every Came (history gs (world s b l)) → Every Idle (history gs (world s b l))
    → (compared c ≡ compared c') × Logs c × Logs c'
