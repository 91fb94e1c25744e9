use Prim.Native.Nat.{ℕ, zero, suc, ◌*◌, ◌/◌, ◌%◌, ◌^◌, ◌<◌}
use mathlib.Core.Path.{◌≡◌, refl}
use native.Mathlib.Omega.{arith}
use lib.ListN.{get_or}
use Rattle.slices.specs.Le.{le32}
use Rattle.put_words.proofs.byte_of.Goals as goal

byte_at : (w j : ℕ) → j < 4 → (w / 2 ^ (8 * j)) % 256 ≡ get_or (le32 w) j 0
byte_at w zero h = omega arith
byte_at w (suc zero) h = refl
byte_at w (suc (suc zero)) h = refl
byte_at w (suc (suc (suc zero))) h = refl
byte_at w (suc (suc (suc (suc j)))) h = omega arith

pub returns : goal.returns
returns c = byte_at c.args.w c.args.j c.requires
