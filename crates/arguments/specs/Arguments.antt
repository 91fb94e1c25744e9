-- What a call's arguments are, read from bytes.
use Rattle.std.specs.Prelude.{ℕ, ◌≡◌, ◌+◌, ◌≤◌, length, take, drop, Option, Some, None}
use Rattle.slices.specs.Le.{le32_at}
use Rattle.definition.specs.Bus.{Bytes}
use Rattle.definition.specs.Calls.{Call}
use Rattle.definition.specs.Player.{Arguments, call_with, bad_arguments, arguments_of}
use Rattle.jobs.specs.Jobs.{call_of}
use Rattle.lines.specs.Input.{output_length}
use Rattle.arguments.specs.declared.CallArgs.{CallArgs}

-- a: the bytes
abbrev pub arguments_by : Bytes → Option CallArgs → Arguments
arguments_by a (Some (CallArgs.Exchanges c x y)) = call_with (call_of c x.now y.now)
arguments_by a (Some CallArgs.Poll) = call_with Call.wifi_poll
arguments_by a (Some (CallArgs.Send interface frame)) = call_with (Call.send_data interface frame.now)
arguments_by a (Some CallArgs.Take) = call_with (Call.get_rx_buf (le32_at a 0))
arguments_by a None = bad_arguments

abbrev pub output_by : Bytes → Option CallArgs → ℕ
output_by a (Some (CallArgs.Exchanges c x y)) = 0
output_by a (Some CallArgs.Poll) = 0
output_by a (Some (CallArgs.Send interface frame)) = 0
output_by a (Some CallArgs.Take) = le32_at a 0
output_by a None = 0

-- r is the call c with these arguments
abbrev pub Reads : ℕ → Bytes → Option CallArgs → Type 0
Reads c a r = (arguments_of c a ≡ arguments_by a r) × (output_length c a ≡ output_by a r)

-- x lies in a; y is a's end
abbrev pub LiesIn : Bytes → Bytes → Type 0
LiesIn a x = (i : ℕ) × (i + length x ≤ length a) × (x ≡ take (length x) (drop i a))

abbrev pub IsEndOf : Bytes → Bytes → Type 0
IsEndOf a y = (k : ℕ) × (k ≤ length a) × (y ≡ drop k a)

-- what r lends is lent from a
abbrev pub LentFrom : Bytes → Option CallArgs → Type 0
LentFrom a (Some (CallArgs.Exchanges c x y)) = LiesIn a x.now × IsEndOf a y.now
LentFrom a (Some CallArgs.Poll) = Unit {0}
LentFrom a (Some (CallArgs.Send interface frame)) = IsEndOf a frame.now
LentFrom a (Some CallArgs.Take) = Unit {0}
LentFrom a None = Unit {0}
