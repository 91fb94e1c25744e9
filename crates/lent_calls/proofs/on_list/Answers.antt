use mathlib.Core.Path.{◌∙◌}
use Rattle.definition.specs.Prog.{world}
use Rattle.lent_calls.specs.Lent.{has_output}
use Rattle.lent_calls.proofs.Plain.{on-32, off-32, unwritten}
use Rattle.lent_calls.proofs.on_list.Goals as goal

pub returns-then-n-eq32 : goal.returns-then-n-eq32
returns-then-n-eq32 c =
    (c.by_value.ensures.0 ∙ on-32 _ _ _ _ _ _ c.if-n-eq32.true, c.by_value.ensures.1)

pub returns : goal.returns
returns c =
    let a = c.args in
    (off-32 _ _ (world a.st a.buf.now a.list) _ _ _ c.if-n-eq32.false, unwritten (has_output a.c) _)
