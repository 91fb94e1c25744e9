use mathlib.Core.Path.{refl}
use Rattle.plans.specs.Plans.{state_by}
use Rattle.exchanging.proofs.begin.connect_by.Goals as goal

pub returns-in-Whole : goal.returns-in-Whole
unfolding state_by
returns-in-Whole c = rw c.in-Whole.is (record { known = c.requires; back = refl })

pub returns-in-Numbered : goal.returns-in-Numbered
unfolding state_by
returns-in-Numbered c = rw c.in-Numbered.is (record { known = c.requires; back = refl })

pub returns-in-Joined : goal.returns-in-Joined
unfolding state_by
returns-in-Joined c = rw c.in-Joined.is c.connecting.ensures
