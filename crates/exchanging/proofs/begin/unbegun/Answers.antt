use mathlib.Core.Path.{refl, sym, ◌∙◌}
use Rattle.control.specs.Exchange as to
use Rattle.exchanging.proofs.Laws.{set, still}
use Rattle.exchanging.proofs.begin.unbegun.Goals as goal

pub returns-then-is_last : goal.returns-then-is_last
unfolding to.unbegun
returns-then-is_last c = λ h lay. simp (sym c.is_dev_error.ensures ∙ c.if-is_dev_error.true, sym c.is_last.ensures ∙ c.if-is_last.true) (set c.put_wifi.ensures c.refuse.ensures refl)

pub returns-then-is_dev_error : goal.returns-then-is_dev_error
unfolding to.unbegun
returns-then-is_dev_error c = λ h lay. simp (sym c.is_dev_error.ensures ∙ c.if-is_dev_error.true, sym c.is_last.ensures ∙ c.if-is_last.false) (still c.requires c.refuse-then-is_dev_error.ensures refl)

pub returns : goal.returns
unfolding to.unbegun
returns c = λ h lay. simp (sym c.is_dev_error.ensures ∙ c.if-is_dev_error.false) (still c.requires c.refuse-2.ensures refl)
