use mathlib.Core.Path.{◌≡◌, sym, ◌∙◌}
use mathlib.Core.Bool.{true, false}
use Prim.Native.Nat.{◌+◌}
use native.Mathlib.Omega.{arith}
use lib.ListN.{length}
use borrow.Author.Tests.{eqb-true}
use Rattle.slices.specs.Le.{words_for, round4, bytes_of}
use Rattle.slices.proofs.Le.{length-bytes_of}
use Rattle.bus.proofs.Landed.{landed-bytes}
use Rattle.reads_c.specs.Reads.{is_transfer}
use Rattle.reads_c.proofs.read_one_pass.Goals as goal

pub read_bytes-requires : goal.read_bytes-requires
read_bytes-requires c = eqb-true _ _ (sym c.is_transfer.ensures ∙ c.if-is_transfer.true)

pub returns-then-is_transfer : goal.returns-then-is_transfer
returns-then-is_transfer c =
    let a = c.args in
    let t : is_transfer a.n a.words.now ≡ true = sym c.is_transfer.ensures ∙ c.if-is_transfer.true in
    let l : length (bytes_of a.words.now) ≡ 4 + round4 a.n = omega (arith, length-bytes_of a.words.now, eqb-true (length a.words.now) (1 + words_for a.n) t) in
    let e = c.read_bytes.ensures in
    record { answer = rw t; laid = rw t e; bytes = λ z i h. rw e (landed-bytes a.n (bytes_of a.words.now) a.buf.now i l h) }

pub returns : goal.returns
returns c =
    let a = c.args in
    let f : is_transfer a.n a.words.now ≡ false = sym c.is_transfer.ensures ∙ c.if-is_transfer.false in
    record { answer = rw f; laid = rw f; bytes = λ z. absurd (omega arith) }
