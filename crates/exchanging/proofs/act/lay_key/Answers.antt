use Rattle.plans.specs.Plans.{pause_by}
use Rattle.exchanging.proofs.Laws.{key-act}
use Rattle.exchanging.proofs.act.lay_key.Goals as goal

pub returns : goal.returns
unfolding pause_by
returns c = λ j h before c₀ e. key-act before _ c.requires.s_value c.pause_at.ensures e (c.lay_payload.ensures.laid j) c.lay_payload.ensures.kept
