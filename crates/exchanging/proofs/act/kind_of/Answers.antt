use mathlib.Core.Path.{◌≡◌, refl}
use Rattle.plans.specs.declared.PlanKind.{PlanKind}
use Rattle.exchanging.specs.declared.now.CallKind.{CallKind}
use Rattle.exchanging.specs.Exchanging.{kind_of}
use Rattle.exchanging.proofs.act.kind_of.Goals as goal

refused : (k : PlanKind) → (k ≡ PlanKind.Pause → ⊥) → (k ≡ PlanKind.Clock → ⊥) → (k ≡ PlanKind.Tick → ⊥) → (k ≡ PlanKind.Give → ⊥) → CallKind.Refused ≡ kind_of k
unfolding kind_of
refused PlanKind.Begin n1 n2 n3 n4 = refl
refused PlanKind.Pause n1 n2 n3 n4 = absurd (n1 refl)
refused PlanKind.Clock n1 n2 n3 n4 = absurd (n2 refl)
refused PlanKind.Tick n1 n2 n3 n4 = absurd (n3 refl)
refused PlanKind.LayKey n1 n2 n3 n4 = refl
refused PlanKind.LongSsid n1 n2 n3 n4 = refl
refused PlanKind.Scan n1 n2 n3 n4 = refl
refused PlanKind.Disconnect n1 n2 n3 n4 = refl
refused PlanKind.Done n1 n2 n3 n4 = refl
refused PlanKind.Give n1 n2 n3 n4 = absurd (n4 refl)
refused PlanKind.Refuse n1 n2 n3 n4 = refl
refused PlanKind.RefuseDown n1 n2 n3 n4 = refl

pub returns-in-Pause : goal.returns-in-Pause
unfolding kind_of
returns-in-Pause c = rw c.in-Pause.is

pub returns-in-Clock : goal.returns-in-Clock
unfolding kind_of
returns-in-Clock c = rw c.in-Clock.is

pub returns-in-Tick : goal.returns-in-Tick
unfolding kind_of
returns-in-Tick c = rw c.in-Tick.is

pub returns-in-Give : goal.returns-in-Give
unfolding kind_of
returns-in-Give c = rw c.in-Give.is

pub returns-in_default : goal.returns-in_default
returns-in_default c = refused c.args.k c.in_default.not-Pause c.in_default.not-Clock c.in_default.not-Tick c.in_default.not-Give
