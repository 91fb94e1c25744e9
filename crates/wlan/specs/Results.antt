-- What the code writes as `Result`: the types' names in definitions.
use Rattle.std.specs.Prelude.{ℕ, Result}
use Rattle.wlan.specs.declared.BusFault.{BusFault}
use Rattle.wlan.specs.declared.SdpcmPacket.{SdpcmPacket}
use Rattle.wlan.specs.declared.RxError.{RxError}
use Rattle.wlan.specs.declared.Success.{Success}
use Rattle.wlan.specs.declared.Refusal.{Refusal}

-- an answer whose kind was tested: a number, or a fault's place
abbrev pub BusAnswer : Type 0
BusAnswer = Result ℕ BusFault

abbrev pub fault_at : ℕ → BusFault
fault_at p = record { place = p }

-- what a received packet is read as
abbrev pub Received : Type 0
Received = Result SdpcmPacket RxError

-- how a call ends
abbrev pub Outcome : Type 0
Outcome = Result Success Refusal
