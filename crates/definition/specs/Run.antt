-- A tree run on a recording, its operations logged. 'For a wish 12, then 8, then 9 or 7', 13 before all.
use Rattle.std.specs.Prelude.{ℕ, ◌+◌, ◌-◌, Bool, true, false, List, [], ◌∷◌, ◌++◌, leb, eqb, length, Ok, Err}
use Rattle.slices.specs.Pick.{pick}
use Rattle.slices.specs.Over.{over}
use Rattle.wlan.specs.declared.DriverError.{DriverError}
use Rattle.wlan.specs.declared.Refusal.{Refusal}
use Rattle.wlan.specs.declared.ScanList.{ScanList}
use Rattle.wlan.specs.declared.State.{State}
use Rattle.definition.specs.Bus.{Bytes, Op, words_of, log_of, Answer, answers, Ans, Taken, got, wrong, taken_by}
use Rattle.definition.specs.Prog.{World, Note, Fin, Loop, Back, Prog, ret, stop, ask, say, loop, note, bind, attempt, turned}
use Rattle.definition.specs.Poll.{Result, first, body}
use Rattle.definition.specs.Calls.{Call, call}
use Rattle.wlan.specs.Results.{Outcome}

-- ---- up to the first operation that takes an answer

-- room: how many words the log still takes
pub data Rest : Type 0 where
  ended : Result → World → Rest
  refused : DriverError → World → Rest
  -- at an operation, logged, that takes an answer
  paused : (room : ℕ) → Op → (Ans → Prog Result) → Rest
  -- the next operation does not fit the log
  full : Rest

pub record Settled : Type 0 where
  pub ops : List Op
  pub notes : List Note
  pub rest : Rest

abbrev pub at : Rest → Settled
at r = record { ops = []; notes = []; rest = r }

abbrev pub logged : Op → Settled → Settled
logged q s = record { ops = q ∷ s.ops; notes = s.notes; rest = s.rest }

abbrev pub noted : Note → Settled → Settled
noted n s = record { ops = s.ops; notes = n ∷ s.notes; rest = s.rest }

abbrev pub words : Op → ℕ
words q = length (words_of q)

-- 12: an operation is logged whole or not at all
abbrev pub fitting : ℕ → Op → (ℕ → Settled) → Settled
fitting room q f = pick (leb (words q) room) (logged q (f (room - words q))) (at full)

-- a turn of a loop, by the answer to its first operation, and on from there
abbrev pub turning : (l : Loop) → World → (Fin (Back l) → World → Prog Result) → Ans → Prog Result
turning l w k x = bind (attempt (body l x w)) (turned l k)

unfoldable pub settle : ℕ → Prog Result → Settled
settle room (ret r w) = at (ended r w)
settle room (stop e w) = at (refused e w)
settle room (ask q k) = fitting room q (λ left. at (paused left q k))
settle room (say q p) = fitting room q (λ left. settle left p)
settle room (loop l w k) = fitting room (first l w.st) (λ left. at (paused left (first l w.st) (turning l w k)))
settle room (note n p) = noted n (settle room p)

-- ---- the whole run

pub record Run : Type 0 where
  pub outcome : Outcome
  pub output : Bytes
  pub world : World
  pub ops : List Op
  pub notes : List Note

abbrev pub finished : Outcome → Bytes → World → Run
finished o b w = record { outcome = o; output = b; world = w; ops = []; notes = [] }

-- 'After 8, 9, 12 and 13 state and buffer are as at entry': e is the world at entry
abbrev pub rolled_back : Refusal → World → Run
rolled_back r e = finished (Err r) [] e

abbrev pub afterwards : Settled → Run → Run
afterwards s r =
    record { outcome = r.outcome; output = r.output; world = r.world; ops = s.ops ++ r.ops; notes = s.notes ++ r.notes }

-- 9: the next answer is not one to the operation
abbrev pub answered : World → (Prog Result → Run) → (Ans → Prog Result) → Taken → Run
answered e go k (got x) = go (k x)
answered e go k wrong = rolled_back Refusal.WrongAnswer e

-- 8: no answer is left
abbrev pub unanswered : World → Rest → Run
unanswered e (ended r w) = finished (Ok r.success) r.output w
unanswered e (refused x w) = finished (Err (Refusal.Driver x)) [] w
unanswered e (paused room q k) = rolled_back Refusal.Unrecorded e
unanswered e full = rolled_back Refusal.LogFull e

abbrev pub resumed : World → Answer → (ℕ → Prog Result → Run) → Rest → Run
resumed e a go (ended r w) = finished (Ok r.success) r.output w
resumed e a go (refused x w) = finished (Err (Refusal.Driver x)) [] w
resumed e a go (paused room q k) = answered e (go room) k (taken_by q a)
resumed e a go full = rolled_back Refusal.LogFull e

unfoldable pub run : World → List Answer → ℕ → Prog Result → Run
run e [] room p = let s = settle room p in afterwards s (unanswered e s.rest)
run e (a ∷ more) room p = let s = settle room p in afterwards s (resumed e a (λ left q. run e more left q) s.rest)

-- ---- an exported call

pub record End : Type 0 where
  pub outcome : Outcome
  pub st : State
  pub list : ScanList
  pub buf : Bytes
  pub log : List ℕ
  pub len : ℕ
  pub output : Bytes

-- 'Log words past the reported length are untouched.'
unfoldable pub shown : List ℕ → Bytes → Run → End
shown log out r =
    record {
      outcome = r.outcome;
      st = r.world.st;
      list = r.world.list;
      buf = r.world.buf;
      log = over log 0 (log_of r.ops);
      len = length (log_of r.ops);
      output = over out 0 r.output;
    }

-- the call with its history; 13: the work buffer is not 2,048 bytes
unfoldable pub run_of : Call → World → List ℕ → ℕ → Run
run_of c w recording room =
    pick (eqb (length w.buf) 2048) (run w (answers recording) room (call c w)) (rolled_back Refusal.BufferLength w)

unfoldable pub called : Call → World → List ℕ → List ℕ → Bytes → End
called c w recording log out = shown log out (run_of c w recording (length log))
