-- A list of calls and its history: what theorems over all lists speak of.
use Rattle.std.specs.Prelude.{Bool, true, false, List, [], ◌∷◌, ℕ, length, Ok, Err}
use Rattle.slices.specs.Pick.{pick}
use Rattle.wlan.specs.declared.Refusal.{Refusal}
use Rattle.definition.specs.Bus.{Bytes}
use Rattle.definition.specs.Prog.{World, world, Note}
use Rattle.definition.specs.Calls.{Call}
use Rattle.definition.specs.Run.{Run, run_of, End, called}
use Rattle.wlan.specs.Results.{Outcome}

-- ---- a list of calls

-- a call with its own recording, log and output, as they are at entry
pub record Given : Type 0 where
  pub call : Call
  pub recording : List ℕ
  pub log : List ℕ
  pub output : Bytes

abbrev pub end_of : Given → World → End
end_of g w = called g.call w g.recording g.log g.output

-- the same call with its history
abbrev pub history_of : Given → World → Run
history_of g w = run_of g.call w g.recording (length g.log)

-- 'State, work buffer and scan table pass along the list.'
abbrev pub next : Given → World → World
next g w =
    let e = end_of g w in
    world e.st e.buf e.list

-- ---- what is counted along it: g, each note by f

abbrev pub folded : {A : Type 0} → (Note → A → A) → List Note → A → A
folded f [] g = g
folded f (n ∷ ns) g = folded f ns (f n g)

-- 'After 8, 9, 12 and 13 state and buffer are as at entry'
abbrev pub rolls_back : Outcome → Bool
rolls_back (Ok x) = false
rolls_back (Err (Refusal.Driver e)) = false
rolls_back (Err Refusal.Unrecorded) = true
rolls_back (Err Refusal.WrongAnswer) = true
rolls_back (Err Refusal.LogFull) = true
rolls_back (Err Refusal.BufferLength) = true

-- 'Rolled-back calls count on neither side.'
abbrev pub counted : {A : Type 0} → (Note → A → A) → Run → A → A
counted f r g = pick (rolls_back r.outcome) g (folded f r.notes g)

-- P before the first of these notes, and after each
abbrev pub Within : {A : Type 0} → (Note → A → A) → (A → Type 0) → A → List Note → Type 0
Within f P g [] = P g
Within f P g (n ∷ ns) = P g × Within f P (f n g) ns

-- H before the first call and after each; P at every moment inside a call, also in one that is rolled back later
abbrev pub Along : {A : Type 0} → (Note → A → A) → (World → A → Type 0) → (A → Type 0) → List Given → World → A → Type 0
Along f H P [] w g = H w g
Along f H P (c ∷ cs) w g = H w g × (Within f P g (history_of c w).notes × Along f H P cs (next c w) (counted f (history_of c w) g))
