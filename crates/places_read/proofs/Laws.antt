-- Where a part is read.
use mathlib.Core.Path.{◌≡◌, ◌∙◌}
use mathlib.Core.List.{List}
use Prim.Native.Nat.{ℕ, ◌+◌, ◌*◌, ◌<◌}
use native.Mathlib.Omega.{arith}
use lib.ListN.{get_or, take, drop}
use lib.Seq.{get_or-take, get_or-drop}
use Rattle.slices.specs.Le.{le16_at, le32_at}
use Rattle.state_bytes.specs.StateBytes.{reply_in, frame_in, failure_in, tick_in}

part_at : (n k : ℕ) (b : List ℕ) (i : ℕ) → i < n → get_or (take n (drop k b)) i 0 ≡ get_or b (k + i) 0
part_at n k b i h = get_or-take n (drop k b) i 0 h ∙ get_or-drop k b i 0

pub reply-here : (b : List ℕ) → reply_in (take 14 (drop 7 b)) ≡ record { tag = get_or b 7 0; offset = le16_at b 8; len = le16_at b 10; status = le32_at b 12 }
unfolding reply_in
reply-here b =
    rw (
      part_at 14 7 b 0 (omega arith),
      part_at 14 7 b 1 (omega arith),
      part_at 14 7 b 2 (omega arith),
      part_at 14 7 b 3 (omega arith),
      part_at 14 7 b 4 (omega arith),
      part_at 14 7 b 5 (omega arith),
      part_at 14 7 b 6 (omega arith),
      part_at 14 7 b 7 (omega arith),
      part_at 14 7 b 8 (omega arith),
    )

pub frame_here : (b : List ℕ) → frame_in (take 14 (drop 7 b)) ≡ record { tag = get_or b 16 0; offset = le16_at b 17; len = le16_at b 19 }
unfolding frame_in
frame_here b =
    rw (
      part_at 14 7 b 9 (omega arith),
      part_at 14 7 b 10 (omega arith),
      part_at 14 7 b 11 (omega arith),
      part_at 14 7 b 12 (omega arith),
      part_at 14 7 b 13 (omega arith),
    )

pub state-here : (b : List ℕ) → get_or (take 20 (drop 21 b)) 0 0 ≡ get_or b 21 0
state-here b = part_at 20 21 b 0 (omega arith)

pub auth_here : (b : List ℕ) → get_or (take 20 (drop 21 b)) 1 0 ≡ get_or b 22 0
auth_here b = part_at 20 21 b 1 (omega arith)

pub failure-here : (b : List ℕ) → failure_in (take 20 (drop 21 b)) ≡ record { tag = get_or b 23 0; status = le32_at b 24; reason = le32_at b 28 }
unfolding failure_in
failure-here b =
    rw (
      part_at 20 21 b 2 (omega arith),
      part_at 20 21 b 3 (omega arith),
      part_at 20 21 b 4 (omega arith),
      part_at 20 21 b 5 (omega arith),
      part_at 20 21 b 6 (omega arith),
      part_at 20 21 b 7 (omega arith),
      part_at 20 21 b 8 (omega arith),
      part_at 20 21 b 9 (omega arith),
      part_at 20 21 b 10 (omega arith),
    )

pub tick-here : (b : List ℕ) → tick_in (take 20 (drop 21 b)) ≡ record { tag = get_or b 32 0; tick = le32_at b 33 + 4294967296 * le32_at b 37 }
unfolding tick_in
tick-here b =
    rw (
      part_at 20 21 b 11 (omega arith),
      part_at 20 21 b 12 (omega arith),
      part_at 20 21 b 13 (omega arith),
      part_at 20 21 b 14 (omega arith),
      part_at 20 21 b 15 (omega arith),
      part_at 20 21 b 16 (omega arith),
      part_at 20 21 b 17 (omega arith),
      part_at 20 21 b 18 (omega arith),
      part_at 20 21 b 19 (omega arith),
    )
