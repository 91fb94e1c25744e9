-- Where a record's parts lie.
use mathlib.Core.Path.{◌≡◌, sym}
use mathlib.Core.List.{List, [], ◌∷◌}
use Prim.Native.Nat.{ℕ, ◌+◌, ◌*◌, ◌-◌, ◌<◌, ◌≤◌}
use native.Mathlib.Omega.{arith}
use lib.ListN.{length, take, drop, get_or}
use lib.Seq.{drop-drop, drop-cons, get_or-take}
use Rattle.std.specs.Int.{w64, from_le_bytes}
use Rattle.slices.specs.Le.{le32_at}
use Rattle.slices.proofs.Over.{part-rest}
use Rattle.wlan.specs.declared.ScanRecord.{ScanRecord}
use Rattle.session_bytes.specs.ListBytes.{record_of, records_from}
use Rattle.session_bytes.proofs.Laws.{get_or-from}

pub bssid-at : (p : List ℕ) → 42 ≤ length p → get_or p 32 0 ∷ get_or p 33 0 ∷ get_or p 34 0 ∷ get_or p 35 0 ∷ get_or p 36 0 ∷ get_or p 37 0 ∷ [] ≡ take 6 (drop 32 p)
bssid-at p h =
    rw (drop-cons p 32 0 (omega arith), drop-cons p 33 0 (omega arith), drop-cons p 34 0 (omega arith), drop-cons p 35 0 (omega arith), drop-cons p 36 0 (omega arith), drop-cons p 37 0 (omega arith))

-- the first 8 bytes as a number
pub count-is : (p : List ℕ) {n : ℕ} → n ≡ from_le_bytes w64 (take 8 p) → n ≡ le32_at p 0 + 4294967296 * le32_at p 4
count-is p e =
    let at : (i : ℕ) → i < 8 → get_or (take 8 p) i 0 ≡ get_or p i 0 = λ i h. get_or-take 8 p i 0 h in
    omega (arith, at 0 (omega arith), at 1 (omega arith), at 2 (omega arith), at 3 (omega arith), at 4 (omega arith), at 5 (omega arith), at 6 (omega arith), at 7 (omega arith))

-- the record i of the part `&p[8 + 42 * i..]`
pub from-part : (p : List ℕ) (i : ℕ) (z : ScanRecord) → i < 32 → record_of (take (length p - (8 + 42 * i)) (drop (8 + 42 * i) p)) ≡ get_or (records_from 32 (drop 8 p)) i z
from-part p i z h = rw (part-rest p (8 + 42 * i), ← drop-drop (42 * i) 8 p) (sym (get_or-from 32 (drop 8 p) i z h))
