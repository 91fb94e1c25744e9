-- A lent table of records and a count, as a scan list.
use Rattle.std.specs.Prelude.{ℕ, List, pos, replicate}
use Rattle.slices.specs.Over.{over}
use Rattle.wlan.specs.declared.ScanRecord.{ScanRecord}
use Rattle.wlan.specs.declared.ScanList.{ScanList}

abbrev pub empty_record : ScanRecord
empty_record = record { ssid = replicate 32 0; bssid = replicate 6 0; ssid_len = 0; channel = 0; rssi = pos 0 }

unfoldable pub empty_records : List ScanRecord
empty_records = replicate 32 empty_record

-- the table's first 32 records; what a shorter table lacks is empty
abbrev pub list_of : List ScanRecord → ℕ → ScanList
list_of table n = record { records = over empty_records 0 table; count = n }

-- the table with the list's records in it, as much as fits
abbrev pub laid : List ScanRecord → ScanList → List ScanRecord
laid table l = over table 0 l.records
