-- The numbers tell one outcome.
use mathlib.Core.Path.{◌≡◌, refl}
use Rattle.wlan.specs.declared.DriverError.{DriverError}
use Rattle.wlan.specs.declared.Refusal.{Refusal}
use Rattle.wlan.specs.declared.Success.{Success}
use Rattle.wlan.specs.declared.WlanPollResult.{WlanPollResult}
use Rattle.wlan.specs.Outcome.{poll_value, value_of}
use Rattle.run_end.specs.RunEnd as to
use Rattle.outcomes.specs.Outcomes.{poll_by, Small, outcome_by}
use Rattle.std.specs.Prelude.{Ok, Err}
use Rattle.wlan.specs.Results.{Outcome}

poll-back : (p : WlanPollResult) → poll_by (poll_value p) (to.failed_poll p) ≡ p
poll-back WlanPollResult.None = refl
poll-back WlanPollResult.Rx = refl
poll-back (WlanPollResult.ConnectFailed f) = refl

pub outcome-back : (o : Outcome) → outcome_by (to.kind_of o) (value_of o) (to.failed_of o) ≡ o
outcome-back (Ok Success.Done) = refl
outcome-back (Ok (Success.Polled p)) = rw (poll-back p) refl
outcome-back (Ok (Success.Taken n)) = refl
outcome-back (Ok (Success.Mac n)) = refl
outcome-back (Ok (Success.Word n)) = refl
outcome-back (Err (Refusal.Driver DriverError.InvalidArg)) = refl
outcome-back (Err (Refusal.Driver DriverError.Timeout)) = refl
outcome-back (Err (Refusal.Driver DriverError.Io)) = refl
outcome-back (Err (Refusal.Driver DriverError.Busy)) = refl
outcome-back (Err (Refusal.Driver DriverError.WouldBlock)) = refl
outcome-back (Err (Refusal.Driver DriverError.NoMem)) = refl
outcome-back (Err (Refusal.Driver (DriverError.Fault p))) = refl
outcome-back (Err (Refusal.Driver DriverError.EventHeader)) = refl
outcome-back (Err (Refusal.Driver DriverError.PastBuffer)) = refl
outcome-back (Err Refusal.Unrecorded) = refl
outcome-back (Err Refusal.WrongAnswer) = refl
outcome-back (Err Refusal.LogFull) = refl
outcome-back (Err Refusal.BufferLength) = refl

pub small-back : (o : Outcome) → to.Fits o → Small (to.kind_of o) (value_of o)
small-back (Ok Success.Done) f = tt
small-back (Ok (Success.Polled p)) f = tt
small-back (Ok (Success.Taken n)) f = f
small-back (Ok (Success.Mac n)) f = tt
small-back (Ok (Success.Word n)) f = f
small-back (Err (Refusal.Driver DriverError.InvalidArg)) f = tt
small-back (Err (Refusal.Driver DriverError.Timeout)) f = tt
small-back (Err (Refusal.Driver DriverError.Io)) f = tt
small-back (Err (Refusal.Driver DriverError.Busy)) f = tt
small-back (Err (Refusal.Driver DriverError.WouldBlock)) f = tt
small-back (Err (Refusal.Driver DriverError.NoMem)) f = tt
small-back (Err (Refusal.Driver (DriverError.Fault p))) f = f
small-back (Err (Refusal.Driver DriverError.EventHeader)) f = tt
small-back (Err (Refusal.Driver DriverError.PastBuffer)) f = tt
small-back (Err Refusal.Unrecorded) f = tt
small-back (Err Refusal.WrongAnswer) f = tt
small-back (Err Refusal.LogFull) f = tt
small-back (Err Refusal.BufferLength) f = tt
