use Rattle.std.proofs.Common.{ap, Err}
use Rattle.answers.specs.declared.NoAnswer.{NoAnswer}
use mathlib.Core.Path.{sym, ◌∙◌}
use Rattle.asking.proofs.Laws as law
use Rattle.asking.proofs.other.Goals as goal

pub taken_as-requires : goal.taken_as-requires
taken_as-requires c = record { op_value = c.requires; x_value = sym c.in-Ok.is ∙ c.take_answer.ensures }

pub returns-in-Err-Unrecorded : goal.returns-in-Err-Unrecorded
returns-in-Err-Unrecorded c = law.heard-none _ _ _ _ _ (sym (c.in-Err-Unrecorded.is ∙ ap (λ (x : NoAnswer). Err x) c.in-Err-Unrecorded.field-0-is) ∙ c.take_answer.ensures) c.refused.ensures

pub returns-in-Err-Wrong : goal.returns-in-Err-Wrong
returns-in-Err-Wrong c = law.heard-wrong _ _ _ _ _ (sym (c.in-Err-Wrong.is ∙ ap (λ (x : NoAnswer). Err x) c.in-Err-Wrong.field-0-is) ∙ c.take_answer.ensures) c.refused-in-Err-Wrong.ensures

pub returns-in-Ok : goal.returns-in-Ok
returns-in-Ok c = law.heard-as _ _ _ _ _ _ c.taken_as.ensures
