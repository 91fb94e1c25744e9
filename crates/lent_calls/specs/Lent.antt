-- A call over a lent table of records.
use Rattle.std.specs.Prelude.{ℕ, Bool, true, false, List, [], eqb}
use Rattle.slices.specs.Pick.{pick}
use Rattle.wlan.specs.declared.Refusal.{Refusal}
use Rattle.wlan.specs.declared.ScanRecord.{ScanRecord}
use Rattle.definition.specs.Bus.{Bytes}
use Rattle.definition.specs.Prog.{World}
use Rattle.definition.specs.Calls.{Call}
use Rattle.definition.specs.Run.{End, called, shown, rolled_back}
use Rattle.jobs.specs.Jobs as jobs
use Rattle.going.specs.declared.CallEnd.{CallEnd}
use Rattle.scan_table.specs.Table.{list_of}
use Rattle.lent_calls.specs.declared.WifiCall.{WifiCall}
use Rattle.lent_calls.specs.declared.LentEnd.{LentEnd}

-- the definition's call; a and b: the bytes that it takes, n: the output's length
unfoldable pub call_of : WifiCall → Bytes → Bytes → ℕ → Call
call_of (WifiCall.Exchanges c) a b n = jobs.call_of c a b
call_of WifiCall.Poll a b n = Call.wifi_poll
call_of (WifiCall.SendData interface) a b n = Call.send_data interface a
call_of WifiCall.GetRxBuf a b n = Call.get_rx_buf n

unfoldable pub has_output : WifiCall → Bool
has_output (WifiCall.Exchanges c) = false
has_output WifiCall.Poll = false
has_output (WifiCall.SendData interface) = false
has_output WifiCall.GetRxBuf = true

-- take's output, and none of another call
abbrev pub output_of : WifiCall → Bytes → Bytes
output_of c out = pick (has_output c) out []

-- where the table has n records; 13: it has not 32
unfoldable pub called_on : ℕ → Call → World → List ℕ → List ℕ → Bytes → End
called_on n c w rec log out = pick (eqb n 32) (called c w rec log out) (shown log out (rolled_back Refusal.BufferLength w))

-- what is handed back, with the list that lies in the table
abbrev pub with_list : LentEnd → List ScanRecord → CallEnd
with_list r table = record { outcome = r.outcome; st = r.st; list = list_of table r.count; len = r.len }
