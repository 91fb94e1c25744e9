use mathlib.Core.Path.{◌≡◌, refl}
use mathlib.Core.Bool.{Bool}
use Rattle.control.specs.declared.Stage.{Stage}
use Rattle.plans.specs.Plans.{next_stage}
use Rattle.wlan.specs.declared.State.{State}
use Rattle.control.specs.declared.Before.{Before}
use Rattle.control.specs.declared.Job.{Job}
use Rattle.control.specs.declared.Lens.{Lens}
use Rattle.control.specs.Exchange.{after_step, begins}
use Rattle.plans.specs.Plans.{pause_by, plan_by}
use Rattle.plans.proofs.plan_of.Goals as goal

on : (j : Job) (l : Lens) (st : State) (h : Bool) (before : Before) (s : Stage) → (s ≡ Stage.Country → ⊥) → (s ≡ Stage.RxFactor → ⊥) → (s ≡ Stage.EventMessages → ⊥) → (s ≡ Stage.InitUp → ⊥) → (s ≡ Stage.JoinBaWsize → ⊥) → (s ≡ Stage.SupWpaTmo → ⊥) → (s ≡ Stage.Key → ⊥) → (s ≡ Stage.WpaAuth → ⊥) → (s ≡ Stage.Ssid → ⊥) → (s ≡ Stage.Escan → ⊥) → (s ≡ Stage.Disassoc → ⊥) → (s ≡ Stage.Single → ⊥) → after_step j l s st h before ≡ begins j l (next_stage s) st h before
unfolding after_step next_stage
on j l st h before Stage.Country n1 n2 n3 n4 n5 n6 n7 n8 n9 n10 n11 n12 = absurd (n1 refl)
on j l st h before Stage.AntDiv n1 n2 n3 n4 n5 n6 n7 n8 n9 n10 n11 n12 = refl
on j l st h before Stage.Txglom n1 n2 n3 n4 n5 n6 n7 n8 n9 n10 n11 n12 = refl
on j l st h before Stage.Apsta n1 n2 n3 n4 n5 n6 n7 n8 n9 n10 n11 n12 = refl
on j l st h before Stage.BaWsize n1 n2 n3 n4 n5 n6 n7 n8 n9 n10 n11 n12 = refl
on j l st h before Stage.Mpdu n1 n2 n3 n4 n5 n6 n7 n8 n9 n10 n11 n12 = refl
on j l st h before Stage.RxFactor n1 n2 n3 n4 n5 n6 n7 n8 n9 n10 n11 n12 = absurd (n2 refl)
on j l st h before Stage.EventMessages n1 n2 n3 n4 n5 n6 n7 n8 n9 n10 n11 n12 = absurd (n3 refl)
on j l st h before Stage.InitUp n1 n2 n3 n4 n5 n6 n7 n8 n9 n10 n11 n12 = absurd (n4 refl)
on j l st h before Stage.JoinBaWsize n1 n2 n3 n4 n5 n6 n7 n8 n9 n10 n11 n12 = absurd (n5 refl)
on j l st h before Stage.Wsec n1 n2 n3 n4 n5 n6 n7 n8 n9 n10 n11 n12 = refl
on j l st h before Stage.SupWpa n1 n2 n3 n4 n5 n6 n7 n8 n9 n10 n11 n12 = refl
on j l st h before Stage.Eapver n1 n2 n3 n4 n5 n6 n7 n8 n9 n10 n11 n12 = refl
on j l st h before Stage.SupWpaTmo n1 n2 n3 n4 n5 n6 n7 n8 n9 n10 n11 n12 = absurd (n6 refl)
on j l st h before Stage.Key n1 n2 n3 n4 n5 n6 n7 n8 n9 n10 n11 n12 = absurd (n7 refl)
on j l st h before Stage.Sae n1 n2 n3 n4 n5 n6 n7 n8 n9 n10 n11 n12 = refl
on j l st h before Stage.Infra n1 n2 n3 n4 n5 n6 n7 n8 n9 n10 n11 n12 = refl
on j l st h before Stage.Auth n1 n2 n3 n4 n5 n6 n7 n8 n9 n10 n11 n12 = refl
on j l st h before Stage.Mfp n1 n2 n3 n4 n5 n6 n7 n8 n9 n10 n11 n12 = refl
on j l st h before Stage.WpaAuth n1 n2 n3 n4 n5 n6 n7 n8 n9 n10 n11 n12 = absurd (n8 refl)
on j l st h before Stage.Ssid n1 n2 n3 n4 n5 n6 n7 n8 n9 n10 n11 n12 = absurd (n9 refl)
on j l st h before Stage.Escan n1 n2 n3 n4 n5 n6 n7 n8 n9 n10 n11 n12 = absurd (n10 refl)
on j l st h before Stage.Disassoc n1 n2 n3 n4 n5 n6 n7 n8 n9 n10 n11 n12 = absurd (n11 refl)
on j l st h before Stage.Single n1 n2 n3 n4 n5 n6 n7 n8 n9 n10 n11 n12 = absurd (n12 refl)

pub returns-in-Country : goal.returns-in-Country
unfolding after_step pause_by
returns-in-Country c = λ l s h before. rw c.in-Country.is (c.pauses.ensures c.args.j l s h before)

pub returns-in-RxFactor : goal.returns-in-RxFactor
unfolding after_step plan_by
returns-in-RxFactor c = λ l s h before. rw (c.in-RxFactor.is, c.only.ensures)

pub returns-in-EventMessages : goal.returns-in-EventMessages
unfolding after_step pause_by
returns-in-EventMessages c = λ l s h before. rw c.in-EventMessages.is (c.pauses-in-EventMessages.ensures c.args.j l s h before)

pub returns-in-InitUp : goal.returns-in-InitUp
unfolding after_step pause_by
returns-in-InitUp c = λ l s h before. rw c.in-InitUp.is (c.pauses-in-InitUp.ensures c.args.j l s h before)

pub returns-in-JoinBaWsize : goal.returns-in-JoinBaWsize
unfolding after_step pause_by
returns-in-JoinBaWsize c = λ l s h before. rw c.in-JoinBaWsize.is (c.length_plan.ensures c.args.j l s h before refl)

pub returns-in-SupWpaTmo : goal.returns-in-SupWpaTmo
unfolding after_step pause_by
returns-in-SupWpaTmo c = λ l s h before. rw c.in-SupWpaTmo.is (c.key_plan.ensures c.args.j l s h before refl)

pub returns-in-Key : goal.returns-in-Key
unfolding after_step pause_by
returns-in-Key c = λ l s h before. rw c.in-Key.is (c.sae_plan.ensures c.args.j l s h before refl)

pub returns-in-WpaAuth : goal.returns-in-WpaAuth
unfolding after_step pause_by
returns-in-WpaAuth c = λ l s h before. rw c.in-WpaAuth.is (c.ssid_plan.ensures c.args.j l s h before refl)

pub returns-in-Ssid : goal.returns-in-Ssid
unfolding after_step plan_by
returns-in-Ssid c = λ l s h before. rw (c.in-Ssid.is, c.only-in-Ssid.ensures)

pub returns-in-Escan : goal.returns-in-Escan
unfolding after_step plan_by
returns-in-Escan c = λ l s h before. rw (c.in-Escan.is, c.only-in-Escan.ensures)

pub returns-in-Disassoc : goal.returns-in-Disassoc
unfolding after_step plan_by
returns-in-Disassoc c = λ l s h before. rw (c.in-Disassoc.is, c.only-in-Disassoc.ensures)

pub returns-in-Single : goal.returns-in-Single
unfolding after_step plan_by
returns-in-Single c = λ l s h before. rw (c.in-Single.is, c.only-in-Single.ensures)

pub returns-in_default : goal.returns-in_default
returns-in_default c = λ l s h before. rw (on c.args.j l s h before c.args.g c.in_default.not-Country c.in_default.not-RxFactor c.in_default.not-EventMessages c.in_default.not-InitUp c.in_default.not-JoinBaWsize c.in_default.not-SupWpaTmo c.in_default.not-Key c.in_default.not-WpaAuth c.in_default.not-Ssid c.in_default.not-Escan c.in_default.not-Disassoc c.in_default.not-Single, ← c.next_stage.ensures) (c.begins.ensures c.args.j l s h before)
