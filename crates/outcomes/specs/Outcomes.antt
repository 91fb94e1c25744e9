-- The outcome that the numbers of a run's end tell.
use Rattle.std.specs.Prelude.{ℕ, ◌<◌, eqb, Option, Some, None, Ok, Err}
use Rattle.slices.specs.Pick.{pick}
use Rattle.wlan.specs.declared.DriverError.{DriverError}
use Rattle.wlan.specs.declared.Refusal.{Refusal}
use Rattle.wlan.specs.declared.Success.{Success}
use Rattle.wlan.specs.declared.WlanPollResult.{WlanPollResult}
use Rattle.run_end.specs.declared.EndKind.{EndKind}
use Rattle.wlan.specs.declared.WifiConnectFailure.{WifiConnectFailure}
use Rattle.wlan.specs.Results.{Outcome}

abbrev pub error : DriverError → Outcome
error e = Err (Refusal.Driver e)

abbrev pub poll_by : ℕ → Option WifiConnectFailure → WlanPollResult
poll_by v None = pick (eqb v 0) WlanPollResult.None WlanPollResult.Rx
poll_by v (Some f) = WlanPollResult.ConnectFailed f

abbrev pub Small : EndKind → ℕ → Type 0
Small EndKind.Done v = Unit {0}
Small EndKind.Polled v = Unit {0}
Small EndKind.Taken v = v < 65536
Small EndKind.Mac v = Unit {0}
Small EndKind.Word v = v < 4294967296
Small EndKind.InvalidArg v = Unit {0}
Small EndKind.Timeout v = Unit {0}
Small EndKind.Io v = Unit {0}
Small EndKind.Busy v = Unit {0}
Small EndKind.WouldBlock v = Unit {0}
Small EndKind.NoMem v = Unit {0}
Small EndKind.Fault v = v < 256
Small EndKind.EventHeader v = Unit {0}
Small EndKind.PastBuffer v = Unit {0}
Small EndKind.Unrecorded v = Unit {0}
Small EndKind.WrongAnswer v = Unit {0}
Small EndKind.LogFull v = Unit {0}
Small EndKind.BufferLength v = Unit {0}

abbrev pub outcome_by : EndKind → ℕ → Option WifiConnectFailure → Outcome
outcome_by EndKind.Done v f = Ok Success.Done
outcome_by EndKind.Polled v f = Ok (Success.Polled (poll_by v f))
outcome_by EndKind.Taken v f = Ok (Success.Taken v)
outcome_by EndKind.Mac v f = Ok (Success.Mac v)
outcome_by EndKind.Word v f = Ok (Success.Word v)
outcome_by EndKind.InvalidArg v f = error DriverError.InvalidArg
outcome_by EndKind.Timeout v f = error DriverError.Timeout
outcome_by EndKind.Io v f = error DriverError.Io
outcome_by EndKind.Busy v f = error DriverError.Busy
outcome_by EndKind.WouldBlock v f = error DriverError.WouldBlock
outcome_by EndKind.NoMem v f = error DriverError.NoMem
outcome_by EndKind.Fault v f = error (DriverError.Fault v)
outcome_by EndKind.EventHeader v f = error DriverError.EventHeader
outcome_by EndKind.PastBuffer v f = error DriverError.PastBuffer
outcome_by EndKind.Unrecorded v f = Err Refusal.Unrecorded
outcome_by EndKind.WrongAnswer v f = Err Refusal.WrongAnswer
outcome_by EndKind.LogFull v f = Err Refusal.LogFull
outcome_by EndKind.BufferLength v f = Err Refusal.BufferLength
