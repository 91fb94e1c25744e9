-- What the code is told of a recording's next answer, by the definition's own words.
use Rattle.std.specs.Prelude.{ℕ, ◌||◌, List, [], ◌∷◌, eqb, Result, Ok, Err}
use Rattle.slices.specs.Pick.{pick}
use Rattle.definition.specs.Bus as def
use Rattle.answers.specs.declared.Recorded.{Recorded}
use Rattle.wlan.specs.Results.{BusAnswer, fault_at}
use Rattle.answers.specs.declared.NoAnswer.{NoAnswer}

-- what an operation is answered, or why it is not
abbrev pub Taken : Type 0
Taken = Result BusAnswer NoAnswer

-- a packet's bytes are not told
abbrev pub told : def.Taken → Taken
told def.wrong = Err NoAnswer.Wrong
told (def.got (def.fault p)) = Ok (Err (fault_at p))
told (def.got (def.val v bytes)) = Ok (Ok v)

unfoldable pub taken_from : def.Op → List def.Answer → Taken
taken_from q [] = Err NoAnswer.Unrecorded
taken_from q (a ∷ more) = told (def.taken_by q a)

-- in the words that are left
abbrev pub taken_of : def.Op → List ℕ → Taken
taken_of q ws = taken_from q (def.answers ws)

-- the same in two steps: an answer as the code reads it, and which of them an operation takes
abbrev pub seen : def.Answer → Recorded
seen a = pick (eqb a.kind 7) (Recorded.Fault a.value) (Recorded.Value a.kind a.value)

unfoldable pub taken_for : def.Op → Recorded → Taken
taken_for q (Recorded.Fault p) = pick (eqb (def.wants q) 4 || eqb (def.wants q) 5) (Err NoAnswer.Wrong) (Ok (Err (fault_at p)))
taken_for q (Recorded.Value k v) = pick (eqb k (def.wants q)) (pick (def.asked q v) (Ok (Ok v)) (Err NoAnswer.Wrong)) (Err NoAnswer.Wrong)
