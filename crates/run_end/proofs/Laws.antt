-- The number that a run's end has is its outcome's.
use mathlib.Core.Path.{◌≡◌, refl}
use Rattle.wlan.specs.declared.DriverError.{DriverError}
use Rattle.wlan.specs.declared.Refusal.{Refusal}
use Rattle.wlan.specs.declared.Success.{Success}
use Rattle.wlan.specs.Outcome.{refusal_of}
use Rattle.run_end.specs.RunEnd as to
use Rattle.std.specs.Prelude.{Ok, Err}
use Rattle.wlan.specs.Results.{Outcome}

pub number_is : (o : Outcome) → to.number_by (to.kind_of o) ≡ refusal_of o
number_is (Ok Success.Done) = refl
number_is (Ok (Success.Polled p)) = refl
number_is (Ok (Success.Taken n)) = refl
number_is (Ok (Success.Mac n)) = refl
number_is (Ok (Success.Word n)) = refl
number_is (Err (Refusal.Driver DriverError.InvalidArg)) = refl
number_is (Err (Refusal.Driver DriverError.Timeout)) = refl
number_is (Err (Refusal.Driver DriverError.Io)) = refl
number_is (Err (Refusal.Driver DriverError.Busy)) = refl
number_is (Err (Refusal.Driver DriverError.WouldBlock)) = refl
number_is (Err (Refusal.Driver DriverError.NoMem)) = refl
number_is (Err (Refusal.Driver (DriverError.Fault p))) = refl
number_is (Err (Refusal.Driver DriverError.EventHeader)) = refl
number_is (Err (Refusal.Driver DriverError.PastBuffer)) = refl
number_is (Err Refusal.Unrecorded) = refl
number_is (Err Refusal.WrongAnswer) = refl
number_is (Err Refusal.LogFull) = refl
number_is (Err Refusal.BufferLength) = refl
