use mathlib.Core.Path.{◌≡◌, refl, sym, ◌∙◌}
use mathlib.Core.Bool.{true, false}
use native.Mathlib.Omega.{arith}
use lib.Dec.{eqb}
use lib.ListN.{length}
use borrow.Author.Tests.{eqb-true, eq-eqb, ne_eqb}
use Rattle.slices.proofs.Over.{over-whole}
use Rattle.two_pass_read.specs.TwoPass.{laid_twice}
use Rattle.two_pass_read.proofs.TwoPass.{twice-landed}
use Rattle.reads_c.specs.Reads.{is_transfer}
use Rattle.reads_c.proofs.read_both.Goals as goal

pub returns-then-copy-buf : goal.returns-then-copy-buf
returns-then-copy-buf c =
    let f : eqb (length c.args.copy.now) (length c.args.buf.now) ≡ false = ne_eqb _ _ c.if-copy-buf.true in
    record { answer = rw f; one = refl; two = refl; same = λ z. absurd (omega arith) }

pub read_bytes-requires-then-is_transfer : goal.read_bytes-requires-then-is_transfer
read_bytes-requires-then-is_transfer c = eqb-true _ _ (sym c.is_transfer.ensures ∙ c.if-is_transfer.true)

pub returns-then-is_transfer : goal.returns-then-is_transfer
returns-then-is_transfer c =
    let a = c.args in
    let t : is_transfer a.n a.words.now ≡ true = sym c.is_transfer.ensures ∙ c.if-is_transfer.true in
    let s : length a.copy.now ≡ length a.buf.now = c.if-copy-buf.false in
    let one = c.read_bytes-then-is_transfer.ensures in
    let copied = c.copy_over.ensures ∙ over-whole a.copy.now a.buf.now (sym s) in
    let two : _ ≡ laid_twice a.n a.words.now a.buf.now = rw copied at c.read_bytes.ensures in
    record { answer = rw (eq-eqb _ _ s, t); one = one; two = two; same = λ z. two ∙ (twice-landed a.n a.words.now a.buf.now ∙ sym one) }

pub returns : goal.returns
returns c =
    let a = c.args in
    let f : is_transfer a.n a.words.now ≡ false = sym c.is_transfer.ensures ∙ c.if-is_transfer.false in
    record { answer = rw (eq-eqb _ _ c.if-copy-buf.false, f); one = refl; two = refl; same = λ z. absurd (omega arith) }
