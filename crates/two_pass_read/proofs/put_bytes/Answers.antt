-- i bytes of the tail are down.
use Prim.Native.Nat.{◌+◌, ◌*◌, ◌<◌}
use mathlib.Core.Path.{refl, sym, ◌∙◌}
use native.Mathlib.Omega.{arith}
use lib.ListN.{length, length-drop}
use lib.Seq.{get_or-drop}
use Rattle.slices.specs.Le.{bytes_of}
use Rattle.slices.proofs.Over.{laid_none, laid_more, laid-fits}
use Rattle.slices.proofs.Le.{length-bytes_of, get_or-bytes_of}
use Rattle.two_pass_read.proofs.put_bytes.Goals as goal

pub loop-i-init : goal.loop-i-init
loop-i-init c = laid_none refl

pub loop-i-preserved : goal.loop-i-preserved
loop-i-preserved c =
    let ws = c.args.words.now in
    let n = c.args.n in
    let i = c.loop-i.i in
    let h : n + i < 4 * length ws = omega arith in
    laid_more 0 c.loop-i.invariant (omega (arith, length-drop n (bytes_of ws), length-bytes_of ws)) refl refl (c.byte_of.ensures ∙ sym (get_or-drop n (bytes_of ws) i 0 ∙ get_or-bytes_of ws (n + i) h))

pub returns : goal.returns
returns c =
    let ws = c.args.words.now in
    laid-fits c.loop-i.invariant (omega (arith, length-drop c.args.n (bytes_of ws), length-bytes_of ws))
