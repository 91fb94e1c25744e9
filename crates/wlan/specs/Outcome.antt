-- The numbers and values of document 01 for each way a call ends.
use Rattle.std.specs.Prelude.{ℕ, Ok, Err}
use Rattle.wlan.specs.declared.DriverError.{DriverError}
use Rattle.wlan.specs.declared.DriverError.TheVariants as error
use Rattle.wlan.specs.declared.Refusal.{Refusal}
use Rattle.wlan.specs.declared.Refusal.TheVariants as refusal
use Rattle.wlan.specs.declared.WlanPollResult.{WlanPollResult}
use Rattle.wlan.specs.declared.WlanPollResult.TheVariants as poll
use Rattle.wlan.specs.declared.Success.{Success}
use Rattle.wlan.specs.declared.Success.TheVariants as success
use Rattle.wlan.specs.Results.{Outcome}

-- 'Refusals', the first column
abbrev pub error_number : DriverError → ℕ
error_number error.InvalidArg = 1
error_number error.Timeout = 2
error_number error.Io = 3
error_number error.Busy = 4
error_number error.WouldBlock = 5
error_number error.NoMem = 6
error_number (error.Fault p) = 7
error_number error.EventHeader = 10
error_number error.PastBuffer = 11

abbrev pub number_of : Refusal → ℕ
number_of (refusal.Driver e) = error_number e
number_of refusal.Unrecorded = 8
number_of refusal.WrongAnswer = 9
number_of refusal.LogFull = 12
number_of refusal.BufferLength = 13

-- a refusal's value: a fault's place, else 0
abbrev pub error_value : DriverError → ℕ
error_value error.InvalidArg = 0
error_value error.Timeout = 0
error_value error.Io = 0
error_value error.Busy = 0
error_value error.WouldBlock = 0
error_value error.NoMem = 0
error_value (error.Fault p) = p
error_value error.EventHeader = 0
error_value error.PastBuffer = 0

abbrev pub refusal_value : Refusal → ℕ
refusal_value (refusal.Driver e) = error_value e
refusal_value refusal.Unrecorded = 0
refusal_value refusal.WrongAnswer = 0
refusal_value refusal.LogFull = 0
refusal_value refusal.BufferLength = 0

-- poll's value: 0, 1 frame, 2 failed
abbrev pub poll_value : WlanPollResult → ℕ
poll_value poll.None = 0
poll_value poll.Rx = 1
poll_value (poll.ConnectFailed f) = 2

-- the refusal, 0 for success
abbrev pub refusal_of : Outcome → ℕ
refusal_of (Ok x) = 0
refusal_of (Err r) = number_of r

-- the value, 0 where none
abbrev pub success_value : Success → ℕ
success_value success.Done = 0
success_value (success.Polled p) = poll_value p
success_value (success.Taken n) = n
success_value (success.Mac n) = n
success_value (success.Word n) = n

abbrev pub value_of : Outcome → ℕ
value_of (Ok x) = success_value x
value_of (Err r) = refusal_value r
