-- What a refusal leaves.
use mathlib.Core.Path.{◌≡◌, refl, sym, ap, ◌∙◌}
use mathlib.Core.Bool.{Bool, true, false}
use mathlib.Core.List.{List, [], ◌∷◌}
use Prim.Native.Nat.{ℕ}
use lib.Dec.{eqb}
use lib.ListN.{length}
use Rattle.slices.specs.Pick.{pick}
use Rattle.slices.specs.Over.{over}
use Rattle.slices.proofs.Over.{over-nil}
use Rattle.wlan.specs.declared.Refusal.{Refusal}
use Rattle.definition.specs.Bus.{Bytes, Answer, answers, Ans, Taken, got, wrong, taken_by}
use Rattle.definition.specs.Prog.{World, world, Prog}
use Rattle.definition.specs.Poll.{Result}
use Rattle.definition.specs.Calls.{Call, call}
use Rattle.definition.specs.Run.{Rest, ended, refused, paused, full, settle, Run, answered, unanswered, resumed, run, rolled_back, run_of, End, shown, called}
use Rattle.std.specs.Prelude.{Ok, Err}
use Rattle.wlan.specs.Results.{Outcome}

-- 'After 8, 9, 12 and 13 state and buffer are as at entry': e; of the other outcomes nothing is said
abbrev pub Undone : World → Outcome → World → Type 0
Undone e (Ok x) w = Unit {0}
Undone e (Err (Refusal.Driver x)) w = Unit {0}
Undone e (Err Refusal.Unrecorded) w = w ≡ e
Undone e (Err Refusal.WrongAnswer) w = w ≡ e
Undone e (Err Refusal.LogFull) w = w ≡ e
Undone e (Err Refusal.BufferLength) w = w ≡ e

-- 'Outputs are untouched by a refusal.'
abbrev Silent : Outcome → Bytes → Type 0
Silent (Ok x) b = Unit {0}
Silent (Err r) b = b ≡ []

-- a run leaves what its outcome says
record Leaves (e : World) (r : Run) : Type 0 where
  undone : Undone e r.outcome r.world
  silent : Silent r.outcome r.output

unanswered-leaves : (e : World) (r : Rest) → Leaves e (unanswered e r)
unanswered-leaves e (ended r w) = record { undone = tt; silent = tt }
unanswered-leaves e (refused x w) = record { undone = tt; silent = refl }
unanswered-leaves e (paused room q k) = record { undone = refl; silent = refl }
unanswered-leaves e full = record { undone = refl; silent = refl }

answered-leaves : (e : World) (go : Prog Result → Run) (k : Ans → Prog Result) (t : Taken) → ((p : Prog Result) → Leaves e (go p)) → Leaves e (answered e go k t)
answered-leaves e go k (got x) g = g (k x)
answered-leaves e go k wrong g = record { undone = refl; silent = refl }

resumed-leaves : (e : World) (a : Answer) (go : ℕ → Prog Result → Run) (r : Rest) → ((room : ℕ) (p : Prog Result) → Leaves e (go room p)) → Leaves e (resumed e a go r)
resumed-leaves e a go (ended r w) g = record { undone = tt; silent = tt }
resumed-leaves e a go (refused x w) g = record { undone = tt; silent = refl }
resumed-leaves e a go (paused room q k) g = answered-leaves e (go room) k (taken_by q a) (g room)
resumed-leaves e a go full g = record { undone = refl; silent = refl }

run-leaves : (e : World) (more : List Answer) (room : ℕ) (p : Prog Result) → Leaves e (run e more room p)
unfolding run
run-leaves e [] room p =
    let l = unanswered-leaves e (settle room p).rest in
    record { undone = l.undone; silent = l.silent }
run-leaves e (a ∷ more) room p =
    let l = resumed-leaves e a (λ m q. run e more m q) (settle room p).rest (λ m q. run-leaves e more m q) in
    record { undone = l.undone; silent = l.silent }

run_of-leaves : (c : Call) (w : World) (recording : List ℕ) (room : ℕ) → Leaves w (run_of c w recording room)
unfolding run_of
run_of-leaves c w recording room = go (eqb (length w.buf) 2048)
  where
    go : (b : Bool) → Leaves w (pick b (run w (answers recording) room (call c w)) (rolled_back Refusal.BufferLength w))
    go true = run-leaves w (answers recording) room (call c w)
    go false = record { undone = refl; silent = refl }

-- ---- of an exported call

abbrev pub world_of : End → World
world_of e = world e.st e.buf e.list

module _ (c : Call) (w : World) (recording log : List ℕ) (out : Bytes) where
  -- 8, 9, 12 and 13 leave state, work buffer and scan list as at entry
  pub rolled-back : (r : Refusal) → (called c w recording log out).outcome ≡ Err r → Undone w (Err r) (world_of (called c w recording log out))
  unfolding called shown
  rolled-back r e = rw e at (run_of-leaves c w recording (length log)).undone

  -- a refusal leaves the output
  pub output-kept : (r : Refusal) → (called c w recording log out).outcome ≡ Err r → (called c w recording log out).output ≡ out
  unfolding called shown
  output-kept r e =
      let s : (run_of c w recording (length log)).output ≡ [] = rw e at (run_of-leaves c w recording (length log)).silent in
      rw s (over-nil out 0)
