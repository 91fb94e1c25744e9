-- Another scan list in a session's bytes.
use Rattle.std.specs.Prelude.{ℕ, ◌+◌, List, set}
use Rattle.wlan.specs.declared.ScanRecord.{ScanRecord}
use Rattle.wlan.specs.declared.ScanList.{ScanList}
use Rattle.session_bytes.specs.declared.session.Session.{Session}
use Rattle.session_bytes.specs.Session.{session_in}

-- the session that bytes hold, with another list
abbrev pub with_list : List ℕ → ScanList → Session
with_list b l = record { st = (session_in b).st; list = l }

-- the list with one record more
abbrev pub added : ScanList → ScanRecord → ScanList
added l r = record { records = set l.records l.count r; count = l.count + 1 }
