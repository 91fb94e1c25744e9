use Prim.Native.Nat.{◌≤◌, ◌*◌}
use mathlib.Core.Path.{◌≡◌}
use lib.ListN.{length, take}
use Rattle.slices.proofs.Over.{Run}
use Rattle.lines.proofs.Texts.{spaced}
use Rattle.lines.proofs.text.put_numbers.Given as goal

abbrev pub invariant-loop-n : goal.invariant-loop-n
invariant-loop-n l = (l.n-index ≤ 8) × (l.at ≤ 21 * l.n-index) × (l.at ≡ length (spaced (take l.n-index l.numbers))) × Run l.initial.text 0 (spaced (take l.n-index l.numbers)) l.text
