-- An outcome as numbers.
use Rattle.std.specs.Prelude.{ℕ, ◌<◌, ◌≡◌, false, eqb, Option, Some, None, Ok, Err}
use Rattle.slices.specs.Pick.{pick}
use Rattle.wlan.specs.declared.DriverError.{DriverError}
use Rattle.wlan.specs.declared.Refusal.{Refusal}
use Rattle.wlan.specs.declared.Success.{Success}
use Rattle.wlan.specs.declared.WlanPollResult.{WlanPollResult}
use Rattle.wlan.specs.Outcome.{poll_value, refusal_value, value_of}
use Rattle.connect_failure.specs.declared.FailureParts.{FailureParts}
use Rattle.connect_failure.specs.Parts.{failure_parts}
use Rattle.run_end.specs.declared.EndKind.{EndKind}
use Rattle.run_end.specs.declared.PollReport.{PollReport}
use Rattle.run_end.specs.declared.RunEnd.{RunEnd}
use Rattle.wlan.specs.declared.WifiConnectFailure.{WifiConnectFailure}
use Rattle.wlan.specs.Results.{Outcome}

abbrev pub error_kind : DriverError → EndKind
error_kind DriverError.InvalidArg = EndKind.InvalidArg
error_kind DriverError.Timeout = EndKind.Timeout
error_kind DriverError.Io = EndKind.Io
error_kind DriverError.Busy = EndKind.Busy
error_kind DriverError.WouldBlock = EndKind.WouldBlock
error_kind DriverError.NoMem = EndKind.NoMem
error_kind (DriverError.Fault p) = EndKind.Fault
error_kind DriverError.EventHeader = EndKind.EventHeader
error_kind DriverError.PastBuffer = EndKind.PastBuffer

abbrev pub refusal_kind : Refusal → EndKind
refusal_kind (Refusal.Driver e) = error_kind e
refusal_kind Refusal.Unrecorded = EndKind.Unrecorded
refusal_kind Refusal.WrongAnswer = EndKind.WrongAnswer
refusal_kind Refusal.LogFull = EndKind.LogFull
refusal_kind Refusal.BufferLength = EndKind.BufferLength

abbrev pub success_kind : Success → EndKind
success_kind Success.Done = EndKind.Done
success_kind (Success.Polled p) = EndKind.Polled
success_kind (Success.Taken n) = EndKind.Taken
success_kind (Success.Mac n) = EndKind.Mac
success_kind (Success.Word n) = EndKind.Word

abbrev pub kind_of : Outcome → EndKind
kind_of (Ok x) = success_kind x
kind_of (Err r) = refusal_kind r

abbrev pub failed_poll : WlanPollResult → Option WifiConnectFailure
failed_poll WlanPollResult.None = None
failed_poll WlanPollResult.Rx = None
failed_poll (WlanPollResult.ConnectFailed f) = Some f

abbrev pub failed_by : Success → Option WifiConnectFailure
failed_by Success.Done = None
failed_by (Success.Polled p) = failed_poll p
failed_by (Success.Taken n) = None
failed_by (Success.Mac n) = None
failed_by (Success.Word n) = None

abbrev pub failed_of : Outcome → Option WifiConnectFailure
failed_of (Ok x) = failed_by x
failed_of (Err r) = None

-- a frame's length, a word and a fault's place are u16, u32 and u8
abbrev pub SuccessFits : Success → Type 0
SuccessFits Success.Done = Unit {0}
SuccessFits (Success.Polled p) = Unit {0}
SuccessFits (Success.Taken n) = n < 65536
SuccessFits (Success.Mac n) = Unit {0}
SuccessFits (Success.Word n) = n < 4294967296

abbrev pub Fits : Outcome → Type 0
Fits (Ok x) = SuccessFits x
Fits (Err r) = refusal_value r < 256

-- a run that is not to be put back
abbrev pub numbers : EndKind → ℕ → FailureParts → ℕ → RunEnd
numbers k v f len = record { back = false; kind = k; value = v; failure = f; len = len }

abbrev pub end_by : Outcome → ℕ → RunEnd
end_by o len = numbers (kind_of o) (value_of o) (failure_parts (failed_of o)) len

-- r tells the outcome o
pub record Tells (r : RunEnd) (o : Outcome) : Type 0 where
  pub kind : r.kind ≡ kind_of o
  pub value : r.value ≡ value_of o
  pub failure : r.failure ≡ failure_parts (failed_of o)
  pub fits : Fits o

-- ---- a poll's report

abbrev pub unfailed : ℕ → PollReport
unfailed v = record { value = v; failure = failure_parts None }

abbrev pub failed_join : Option WifiConnectFailure → PollReport
failed_join f = record { value = 2; failure = failure_parts f }

abbrev pub report_of : WlanPollResult → PollReport
report_of p = record { value = poll_value p; failure = failure_parts (failed_poll p) }

-- ---- a refusal's number

abbrev pub number_by : EndKind → ℕ
number_by EndKind.Done = 0
number_by EndKind.Polled = 0
number_by EndKind.Taken = 0
number_by EndKind.Mac = 0
number_by EndKind.Word = 0
number_by EndKind.InvalidArg = 1
number_by EndKind.Timeout = 2
number_by EndKind.Io = 3
number_by EndKind.Busy = 4
number_by EndKind.WouldBlock = 5
number_by EndKind.NoMem = 6
number_by EndKind.Fault = 7
number_by EndKind.EventHeader = 10
number_by EndKind.PastBuffer = 11
number_by EndKind.Unrecorded = 8
number_by EndKind.WrongAnswer = 9
number_by EndKind.LogFull = 12
number_by EndKind.BufferLength = 13
