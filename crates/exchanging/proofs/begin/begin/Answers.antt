use Rattle.wlan.specs.declared.State.{State}
use Rattle.plans.specs.Plans.{begun_by}
use Rattle.exchanging.proofs.Laws.{moved}
use Rattle.exchanging.proofs.begin.begin.Goals as goal

pub returns : goal.returns
returns c = λ h before c₀ e. moved (λ (s : State). begun_by c.args.begin c.args.j c.args.l c.args.g s h before) c.requires.kept c.requires.s_value c.connect_by.ensures (c.begin_put.ensures h before c₀ e)
