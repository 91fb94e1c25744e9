use mathlib.Core.Path.{◌≡◌, sym, ◌∙◌}
use mathlib.Core.Bool.{true, false}
use Rattle.reads_c.specs.Reads.{is_transfer}
use Rattle.reads_c.proofs.read_two_passes.Goals as goal

pub returns-then-is_transfer : goal.returns-then-is_transfer
returns-then-is_transfer c =
    let a = c.args in
    let t : is_transfer a.n a.words.now ≡ true = sym c.is_transfer.ensures ∙ c.if-is_transfer.true in
    record { answer = rw t; laid = rw t c.read_bytes.ensures }

pub returns : goal.returns
returns c =
    let a = c.args in
    let f : is_transfer a.n a.words.now ≡ false = sym c.is_transfer.ensures ∙ c.if-is_transfer.false in
    record { answer = rw f; laid = rw f }
