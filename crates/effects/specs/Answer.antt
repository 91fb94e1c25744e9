-- A recorded answer, in the definition's terms.
use Rattle.std.specs.Prelude.{ℕ, Bool, true, false, List, Ok, Err}
use Rattle.wlan.specs.declared.BusOp.{BusOp}
use Rattle.definition.specs.Bus.{Ans, fault, val}
use Rattle.answers.proofs.Answers.{next_of}
use Rattle.wlan.specs.Results.{BusAnswer}

-- ws: the recording's words that begin with it
unfoldable pub answer_in : BusAnswer → List ℕ → Ans
answer_in (Err f) ws = fault f.place
answer_in (Ok v) ws = val v (next_of ws).bytes

-- an operation that takes no answer
unfoldable pub is_wait : BusOp → Bool
is_wait BusOp.ReadInterrupt = false
is_wait BusOp.ReadStatus = false
is_wait (BusOp.ReadPacket n) = false
is_wait BusOp.ReadClock = false
is_wait BusOp.ReadTick = false
is_wait (BusOp.WritePacket n) = false
is_wait (BusOp.WriteInterrupt v) = false
is_wait BusOp.FrameControl = false
is_wait (BusOp.Wait ns) = true
