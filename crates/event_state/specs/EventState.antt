-- An event's numbers, and the types of event that a connection heeds.
use Rattle.std.specs.Prelude.{ℕ, Bool, ◌||◌, eqb}
use Rattle.slices.specs.Le.{be16_at, be32_at}
use Rattle.wlan.specs.declared.AsyncEvent.{AsyncEvent}
use Rattle.wlan.specs.declared.ScanRecord.{ScanRecord}
use Rattle.definition.specs.Bus.{Bytes}
use Rattle.event_state.specs.declared.Numbers.{Numbers}

-- the numbers that lead an event's bytes
unfoldable pub numbers_of : Bytes → Numbers
numbers_of e = record { flags = be16_at e 2; event_type = be32_at e 4; status = be32_at e 8; reason = be32_at e 12 }

-- the event that they and a scan result make
abbrev pub event_with : Numbers → ScanRecord → AsyncEvent
event_with n x = record { flags = n.flags; event_type = n.event_type; status = n.status; reason = n.reason; scan_result = x }

-- the types of event that a connection heeds
unfoldable pub is_link : ℕ → Bool
is_link t =
    eqb t 0 || (eqb t 3 || (eqb t 7 || (eqb t 16 || (eqb t 23 || (eqb t 46 || (eqb t 5 || (eqb t 6 || (eqb t 11 || eqb t 12))))))))
