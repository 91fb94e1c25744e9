-- What holds along a call's tree holds of what a run writes.
use mathlib.Core.Bool.{Bool, true, false}
use mathlib.Core.List.{List, [], ◌∷◌, ◌++◌}
use Prim.Native.Nat.{ℕ, ◌-◌}
use lib.Dec.{leb, eqb}
use lib.ListN.{length}
use Rattle.slices.specs.Pick.{pick}
use Rattle.wlan.specs.declared.DriverError.{DriverError}
use Rattle.wlan.specs.declared.Refusal.{Refusal}
use Rattle.definition.specs.Bus.{Place, Op, Answer, answers, Ans, Taken, got, wrong, taken_by}
use Rattle.definition.specs.Prog.{World, Prog, turned}
use Rattle.definition.specs.Poll.{Result, first}
use Rattle.definition.specs.Calls.{Call, call}
use Rattle.definition.specs.Run.{Rest, ended, refused, paused, full, Settled, at, logged, words, settle, Run, rolled_back, answered, unanswered, resumed, run, run_of}
use Rattle.secrecy.proofs.Places.Tree.{PlaceIs, PlacesAre, Writes, w-ret, w-stop, w-ask, w-say, w-loop, w-note, w-bind, w-attempt, w-turned}
use Rattle.secrecy.proofs.Places.Poll.{body-w, first-w}

module _ (Q : Place → Type 0) where
  data RestWrites : Rest → Type 0 where
    rw-ended : {r : Result} {w : World} → RestWrites (ended r w)
    rw-refused : {e : DriverError} {w : World} → RestWrites (refused e w)
    rw-paused : {room : ℕ} {q : Op} {k : Ans → Prog Result} → ((x : Ans) → Writes Q (k x)) → RestWrites (paused room q k)
    rw-full : RestWrites full

  record SettledWrites (s : Settled) : Type 0 where
    ops : PlacesAre Q s.ops
    rest : RestWrites s.rest

  fitting-w : (b : Bool) (q : Op) (s : Settled) → PlaceIs Q q → SettledWrites s → SettledWrites (pick b (logged q s) (at full))
  fitting-w true q s h g = record { ops = (h, g.ops); rest = g.rest }
  fitting-w false q s h g = record { ops = tt; rest = rw-full }

  settle-w : (room : ℕ) {p : Prog Result} → Writes Q p → SettledWrites (settle room p)
  unfolding settle
  settle-w room w-ret = record { ops = tt; rest = rw-ended }
  settle-w room w-stop = record { ops = tt; rest = rw-refused }
  settle-w room (w-ask {q} {k} h g) = fitting-w (leb (words q) room) q _ h (record { ops = tt; rest = rw-paused g })
  settle-w room (w-say {q} h g) = fitting-w (leb (words q) room) q _ h (settle-w (room - words q) g)
  settle-w room (w-loop {l} {w} {k} g) =
      fitting-w (leb (words (first l w.st)) room) (first l w.st) _ (first-w Q l w.st)
      (record { ops = tt; rest = rw-paused (λ x. w-bind Q (turned l k) (w-attempt Q (body-w Q l x w)) (λ r. w-turned Q l k r g)) })
  settle-w room (w-note g) =
      let s = settle-w room g in
      record { ops = s.ops; rest = s.rest }

  places-append : (a b : List Op) → PlacesAre Q a → PlacesAre Q b → PlacesAre Q (a ++ b)
  places-append [] b h g = g
  places-append (q ∷ a) b h g = (h.0, places-append a b h.1 g)

  unanswered-w : (e : World) {r : Rest} → RestWrites r → PlacesAre Q (unanswered e r).ops
  unanswered-w e rw-ended = tt
  unanswered-w e rw-refused = tt
  unanswered-w e (rw-paused g) = tt
  unanswered-w e rw-full = tt

  answered-w : (e : World) (go : Prog Result → Run) (k : Ans → Prog Result) (t : Taken) → ((p : Prog Result) → Writes Q p → PlacesAre Q (go p).ops) → ((x : Ans) → Writes Q (k x)) → PlacesAre Q (answered e go k t).ops
  answered-w e go k (got x) g h = g (k x) (h x)
  answered-w e go k wrong g h = tt

  resumed-w : (e : World) (a : Answer) (go : ℕ → Prog Result → Run) → ((room : ℕ) (p : Prog Result) → Writes Q p → PlacesAre Q (go room p).ops) → {r : Rest} → RestWrites r → PlacesAre Q (resumed e a go r).ops
  resumed-w e a go g rw-ended = tt
  resumed-w e a go g rw-refused = tt
  resumed-w e a go g (rw-paused {room} {q} {k} h) = answered-w e (go room) k (taken_by q a) (g room) h
  resumed-w e a go g rw-full = tt

  run-w : (e : World) (l : List Answer) (room : ℕ) (p : Prog Result) → Writes Q p → PlacesAre Q (run e l room p).ops
  unfolding run
  run-w e [] room p h =
      let s = settle-w room h in
      places-append (settle room p).ops _ s.ops (unanswered-w e s.rest)
  run-w e (a ∷ l) room p h =
      let s = settle-w room h in
      places-append (settle room p).ops _ s.ops (resumed-w e a (λ m q. run e l m q) (λ m q g. run-w e l m q g) s.rest)

  pub run_of-w : (c : Call) (w : World) (recording : List ℕ) (room : ℕ) → Writes Q (call c w) → PlacesAre Q (run_of c w recording room).ops
  unfolding run_of
  run_of-w c w recording room h = go (eqb (length w.buf) 2048)
    where
      go : (b : Bool) → PlacesAre Q (pick b (run w (answers recording) room (call c w)) (rolled_back Refusal.BufferLength w)).ops
      go true = run-w w (answers recording) room (call c w) h
      go false = tt
