use mathlib.Core.Path.{refl}
use mathlib.Core.List.{◌++◌}
use native.Mathlib.Omega.{arith}
use Rattle.slices.specs.Le.{le32, bytes_of}
use Rattle.slices.proofs.Over.{Run, run_none, run_more}
use Rattle.put_words.proofs.put_four.Goals as goal

pub returns : goal.returns
unfolding bytes_of
returns c =
    let a = c.args in
    let r : Run a.dst.now a.at (le32 a.a) _ = run_more (le32 a.a) run_none (omega arith) c.put_whole.ensures in
    let s : Run a.dst.now a.at (le32 a.a ++ le32 a.b) _ = run_more (le32 a.b) r refl c.put_whole-2.ensures in
    let t : Run a.dst.now a.at (le32 a.a ++ (le32 a.b ++ le32 a.c)) _ = run_more (le32 a.c) s refl c.put_whole-3.ensures in
    (run_more (le32 a.d) t refl c.put_whole-4.ensures).is
