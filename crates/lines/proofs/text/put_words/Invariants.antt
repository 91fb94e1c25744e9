use Prim.Native.Nat.{◌+◌, ◌*◌, ◌≤◌}
use mathlib.Core.Path.{◌≡◌}
use lib.ListN.{length, take}
use Rattle.slices.proofs.Over.{Run}
use Rattle.lines.specs.Text.{words_of}
use Rattle.lines.proofs.text.put_words.Given as goal

abbrev pub invariant-loop-w : goal.invariant-loop-w
invariant-loop-w l = (l.w-index ≤ length l.log) × (l.end ≡ l.at + 9 * l.w-index) × Run l.initial.text l.at (words_of (take l.w-index l.log)) l.text
