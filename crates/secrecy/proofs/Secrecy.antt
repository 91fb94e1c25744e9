-- Demand 3: the passphrase never leaves.
use mathlib.Core.Path.{◌≡◌, refl}
use mathlib.Core.List.{List, ◌∷◌, map}
use Prim.Native.Nat.{ℕ}
use lib.ListN.{length}
use Rattle.slices.specs.Over.{over}
use Rattle.wlan.specs.State.{fresh}
use Rattle.definition.specs.Bus.{Bytes, log_of}
use Rattle.definition.specs.Prog.{world, Note}
use Rattle.definition.specs.Run.{Run, run_of, called, shown}
use Rattle.definition.specs.History.{Given}
use Rattle.secrecy.specs.Secrecy.{Same, none, more, blot, Seen, seen, observed, history, Secrecy}
use Rattle.secrecy.proofs.Twin.{Twin, left, right}
use Rattle.secrecy.proofs.Runs.{AllHold, all_hold, hold-front, hold-back, ops-length, ops-blot, SameRun, same-run, run_of-rel}

-- what is seen of a run
abbrev seen_of : List ℕ → Bytes → Run → Seen
seen_of log output r =
    record {
      outcome = r.outcome;
      output = over output 0 r.output;
      list = r.world.list;
      st = r.world.st;
      len = length (log_of r.ops);
      log = over log 0 (log_of (map blot r.ops));
    }

step : {r r' : Run} (log : List ℕ) (output : Bytes) (gs gs' : List Given) → SameRun r r' → ((σ : Twin) → AllHold (history gs (left σ)) → observed gs (left σ) ≡ observed gs' (right σ)) → AllHold (history gs r.world)
    → ◌≡◌ {A = List Seen} (seen_of log output r ∷ observed gs r.world) (seen_of log output r' ∷ observed gs' r'.world)
step log output gs gs' (same-run τ o) f h = rw (ops-length o, ops-blot o, f τ h)

twins : {gs gs' : List Given} → Same gs gs' → (τ : Twin) → AllHold (history gs (left τ)) → observed gs (left τ) ≡ observed gs' (right τ)
unfolding observed history seen called shown
twins none τ h = refl
twins (more {c} {recording = recording} {log = log} {output = output} {gs = gs} {gs' = gs'} s r) τ h =
    let ns : List Note = (run_of c (left τ) recording (length log)).notes in
    let ms : List Note = history gs (run_of c (left τ) recording (length log)).world in
    step log output gs gs' (run_of-rel τ recording (length log) s (hold-front ns ms h)) (λ σ i. twins r σ i) (hold-back ns ms h)

-- the theorem
pub secrecy : Secrecy
secrecy gs gs' b l r c i =
    twins r (record { st = fresh; list = l; one = b; two = b; size = refl; front = λ i u. refl; waiting = record { frame = tt; reply = tt } })
    (all_hold (history gs (world fresh b l)) c i)
