-- The events of a run in their order: notes, operations logged, answers taken.
use mathlib.Core.List.{List, [], ◌∷◌, ◌++◌}
use Prim.Native.Nat.{ℕ, ◌-◌}
use lib.Dec.{leb, eqb}
use lib.ListN.{length}
use Rattle.slices.specs.Pick.{pick}
use Rattle.definition.specs.Bus.{Op, Ans, Answer, answers, Taken, got, wrong, taken_by}
use Rattle.definition.specs.Prog.{World, Note, Prog, ret, stop, ask, say, loop, note}
use Rattle.definition.specs.Poll.{Result, first}
use Rattle.definition.specs.Calls.{Call, call}
use Rattle.definition.specs.Run.{Rest, ended, refused, paused, full, words, settle}

pub data Event : Type 0 where
  noted : Note → Event
  logged : Op → Event
  answered : Ans → Event

-- ---- as `settle` and `run` go

unfoldable pub settling : ℕ → Prog Result → List Event
settling room (ret r w) = []
settling room (stop e w) = []
settling room (ask q k) = pick (leb (words q) room) (Event.logged q ∷ []) []
settling room (say q p) = pick (leb (words q) room) (Event.logged q ∷ settling (room - words q) p) []
settling room (loop l w k) = pick (leb (words (first l w.st)) room) (Event.logged (first l w.st) ∷ []) []
settling room (note n p) = Event.noted n ∷ settling room p

abbrev pub taking : (Prog Result → List Event) → (Ans → Prog Result) → Taken → List Event
taking go k (got x) = Event.answered x ∷ go (k x)
taking go k wrong = []

abbrev pub resuming : Answer → (ℕ → Prog Result → List Event) → Rest → List Event
resuming a go (ended r w) = []
resuming a go (refused e w) = []
resuming a go (paused room q k) = taking (go room) k (taken_by q a)
resuming a go full = []

unfoldable pub events : List Answer → ℕ → Prog Result → List Event
events [] room p = settling room p
events (a ∷ more) room p = settling room p ++ resuming a (λ left q. events more left q) (settle room p).rest

-- a call's; 13 has none
unfoldable pub events_of : Call → World → List ℕ → ℕ → List Event
events_of c w recording room = pick (eqb (length w.buf) 2048) (events (answers recording) room (call c w)) []

-- ---- along them

abbrev pub note_of : Event → List Note
note_of (Event.noted n) = n ∷ []
note_of (Event.logged q) = []
note_of (Event.answered x) = []

abbrev pub operation_of : Event → List Op
operation_of (Event.noted n) = []
operation_of (Event.logged q) = q ∷ []
operation_of (Event.answered x) = []

-- what one event gives, over all
abbrev pub all : {B : Type 0} → (Event → List B) → List Event → List B
all f [] = []
all f (e ∷ es) = f e ++ all f es

abbrev pub along : {A : Type 0} → (Event → A → A) → List Event → A → A
along f [] g = g
along f (e ∷ es) g = along f es (f e g)

abbrev pub Each : {A : Type 0} → (Event → A → A) → (A → Type 0) → A → List Event → Type 0
Each f P g [] = P g
Each f P g (e ∷ es) = P g × Each f P (f e g) es
