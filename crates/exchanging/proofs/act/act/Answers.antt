use mathlib.Core.Path.{refl, ◌∙◌}
use Rattle.plans.specs.Plans.{plan_by}
use Rattle.exchanging.proofs.Laws.{still, plan-still, set-act, clear-act}
use Rattle.exchanging.proofs.act.act.Goals as goal

pub returns-in-Begin : goal.returns-in-Begin
unfolding plan_by
returns-in-Begin c = λ h before c₀ e. rw c.in-Begin.is (c.begin.ensures h before c₀ e)

pub returns-in-LayKey : goal.returns-in-LayKey
unfolding plan_by
returns-in-LayKey c = λ h before c₀ e. rw c.in-LayKey.is (c.lay_key.ensures c.args.j h before c₀ e)

pub returns-in-LongSsid : goal.returns-in-LongSsid
unfolding plan_by
returns-in-LongSsid c = λ h before c₀ e. rw c.in-LongSsid.is (set-act before c.requires.kept c.requires.s_value e (c.refuse_join.ensures h before))

pub returns-in-Scan : goal.returns-in-Scan
unfolding plan_by
returns-in-Scan c = λ h before c₀ e. rw c.in-Scan.is (clear-act before c.requires.kept e (c.scanned.ensures h before))

pub returns-in-Disconnect : goal.returns-in-Disconnect
unfolding plan_by
returns-in-Disconnect c = λ h before c₀ e. rw c.in-Disconnect.is (set-act before c.requires.kept c.requires.s_value e (c.disconnect.ensures h before))

pub returns-in-RefuseDown : goal.returns-in-RefuseDown
unfolding plan_by
returns-in-RefuseDown c = λ h before c₀ e. rw c.in-RefuseDown.is (set-act before c.requires.kept c.requires.s_value e (c.refuse_down.ensures h before))

pub returns-in-Done : goal.returns-in-Done
unfolding plan_by
returns-in-Done c = λ h before c₀ e. rw c.in-Done.is (set-act before c.requires.kept c.requires.s_value e (still c.requires.s_value c.end.ensures refl))

pub returns-in_default : goal.returns-in_default
returns-in_default c = λ h before c₀ e. set-act before c.requires.kept c.requires.s_value e (plan-still c.args.f c.args.j c.args.l h before c.args.f.kind c.in_default.in_default-own.keys8 c.requires.s_value (c.now_at.ensures.0 ∙ c.kind_of.ensures) c.now_at.ensures.1 c.now_at.ensures.2 c.now_at.ensures.3 c.now_at.ensures.4)
