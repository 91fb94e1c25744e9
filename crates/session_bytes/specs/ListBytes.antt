-- The scan list's bytes, and the list that bytes hold.
use Rattle.std.specs.Prelude.{ℕ, zero, suc, ◌+◌, ◌*◌, ◌≡◌, List, [], ◌∷◌, ◌++◌, length, get_or, take, drop}
use Rattle.slices.specs.Le.{le16, le16_at, le32_at, signed16}
use Rattle.wlan.specs.declared.ScanRecord.{ScanRecord}
use Rattle.wlan.specs.declared.ScanList.{ScanList}
use Rattle.state_bytes.specs.Numbers.{unsigned16}
use Rattle.state_bytes.specs.StateBytes.{le64}

unfoldable pub tail_bytes : ScanRecord → List ℕ
tail_bytes r = r.ssid_len ∷ r.channel ∷ le16 (unsigned16 r.rssi)

-- 42 bytes
unfoldable pub record_bytes : ScanRecord → List ℕ
record_bytes r = r.ssid ++ (r.bssid ++ tail_bytes r)

unfoldable pub records_bytes : List ScanRecord → List ℕ
records_bytes [] = []
records_bytes (r ∷ l) = record_bytes r ++ records_bytes l

-- 1,352 bytes
unfoldable pub list_bytes : ScanList → List ℕ
list_bytes l = le64 l.count ++ records_bytes l.records

-- ---- and back

unfoldable pub record_of : List ℕ → ScanRecord
record_of p =
    record {
      ssid = take 32 p;
      bssid = take 6 (drop 32 p);
      ssid_len = get_or p 38 0;
      channel = get_or p 39 0;
      rssi = signed16 (le16_at p 40);
    }

unfoldable pub records_from : ℕ → List ℕ → List ScanRecord
records_from zero p = []
records_from (suc n) p = record_of p ∷ records_from n (drop 42 p)

unfoldable pub list_in : List ℕ → ScanList
list_in p = record { records = records_from 32 (drop 8 p); count = le32_at p 0 + 4294967296 * le32_at p 4 }

-- a record whose bytes are 42, and give it back whatever follows them
pub record Whole (r : ScanRecord) : Type 0 where
  pub size : length (record_bytes r) ≡ 42
  pub back : (t : List ℕ) → record_of (record_bytes r ++ t) ≡ r

abbrev pub EachWhole : List ScanRecord → Type 0
EachWhole [] = Unit {0}
EachWhole (r ∷ l) = Whole r × EachWhole l
