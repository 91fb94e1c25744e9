use mathlib.Core.Path.{◌≡◌, refl}
use Rattle.control.specs.declared.Stage.{Stage}
use Rattle.plans.specs.Plans.{next_stage}
use Rattle.plans.proofs.next_stage.Goals as goal

others : (s : Stage) → (s ≡ Stage.AntDiv → ⊥) → (s ≡ Stage.Txglom → ⊥) → (s ≡ Stage.Apsta → ⊥) → (s ≡ Stage.BaWsize → ⊥) → (s ≡ Stage.Mpdu → ⊥) → (s ≡ Stage.Wsec → ⊥) → (s ≡ Stage.SupWpa → ⊥) → (s ≡ Stage.Eapver → ⊥) → (s ≡ Stage.Sae → ⊥) → (s ≡ Stage.Infra → ⊥) → (s ≡ Stage.Auth → ⊥) → (s ≡ Stage.Mfp → ⊥) → Stage.Single ≡ next_stage s
unfolding next_stage
others Stage.Country n1 n2 n3 n4 n5 n6 n7 n8 n9 n10 n11 n12 = refl
others Stage.AntDiv n1 n2 n3 n4 n5 n6 n7 n8 n9 n10 n11 n12 = absurd (n1 refl)
others Stage.Txglom n1 n2 n3 n4 n5 n6 n7 n8 n9 n10 n11 n12 = absurd (n2 refl)
others Stage.Apsta n1 n2 n3 n4 n5 n6 n7 n8 n9 n10 n11 n12 = absurd (n3 refl)
others Stage.BaWsize n1 n2 n3 n4 n5 n6 n7 n8 n9 n10 n11 n12 = absurd (n4 refl)
others Stage.Mpdu n1 n2 n3 n4 n5 n6 n7 n8 n9 n10 n11 n12 = absurd (n5 refl)
others Stage.RxFactor n1 n2 n3 n4 n5 n6 n7 n8 n9 n10 n11 n12 = refl
others Stage.EventMessages n1 n2 n3 n4 n5 n6 n7 n8 n9 n10 n11 n12 = refl
others Stage.InitUp n1 n2 n3 n4 n5 n6 n7 n8 n9 n10 n11 n12 = refl
others Stage.JoinBaWsize n1 n2 n3 n4 n5 n6 n7 n8 n9 n10 n11 n12 = refl
others Stage.Wsec n1 n2 n3 n4 n5 n6 n7 n8 n9 n10 n11 n12 = absurd (n6 refl)
others Stage.SupWpa n1 n2 n3 n4 n5 n6 n7 n8 n9 n10 n11 n12 = absurd (n7 refl)
others Stage.Eapver n1 n2 n3 n4 n5 n6 n7 n8 n9 n10 n11 n12 = absurd (n8 refl)
others Stage.SupWpaTmo n1 n2 n3 n4 n5 n6 n7 n8 n9 n10 n11 n12 = refl
others Stage.Key n1 n2 n3 n4 n5 n6 n7 n8 n9 n10 n11 n12 = refl
others Stage.Sae n1 n2 n3 n4 n5 n6 n7 n8 n9 n10 n11 n12 = absurd (n9 refl)
others Stage.Infra n1 n2 n3 n4 n5 n6 n7 n8 n9 n10 n11 n12 = absurd (n10 refl)
others Stage.Auth n1 n2 n3 n4 n5 n6 n7 n8 n9 n10 n11 n12 = absurd (n11 refl)
others Stage.Mfp n1 n2 n3 n4 n5 n6 n7 n8 n9 n10 n11 n12 = absurd (n12 refl)
others Stage.WpaAuth n1 n2 n3 n4 n5 n6 n7 n8 n9 n10 n11 n12 = refl
others Stage.Ssid n1 n2 n3 n4 n5 n6 n7 n8 n9 n10 n11 n12 = refl
others Stage.Escan n1 n2 n3 n4 n5 n6 n7 n8 n9 n10 n11 n12 = refl
others Stage.Disassoc n1 n2 n3 n4 n5 n6 n7 n8 n9 n10 n11 n12 = refl
others Stage.Single n1 n2 n3 n4 n5 n6 n7 n8 n9 n10 n11 n12 = refl

pub returns-in-AntDiv : goal.returns-in-AntDiv
unfolding next_stage
returns-in-AntDiv c = rw c.in-AntDiv.is

pub returns-in-Txglom : goal.returns-in-Txglom
unfolding next_stage
returns-in-Txglom c = rw c.in-Txglom.is

pub returns-in-Apsta : goal.returns-in-Apsta
unfolding next_stage
returns-in-Apsta c = rw c.in-Apsta.is

pub returns-in-BaWsize : goal.returns-in-BaWsize
unfolding next_stage
returns-in-BaWsize c = rw c.in-BaWsize.is

pub returns-in-Mpdu : goal.returns-in-Mpdu
unfolding next_stage
returns-in-Mpdu c = rw c.in-Mpdu.is

pub returns-in-Wsec : goal.returns-in-Wsec
unfolding next_stage
returns-in-Wsec c = rw c.in-Wsec.is

pub returns-in-SupWpa : goal.returns-in-SupWpa
unfolding next_stage
returns-in-SupWpa c = rw c.in-SupWpa.is

pub returns-in-Eapver : goal.returns-in-Eapver
unfolding next_stage
returns-in-Eapver c = rw c.in-Eapver.is

pub returns-in-Sae : goal.returns-in-Sae
unfolding next_stage
returns-in-Sae c = rw c.in-Sae.is

pub returns-in-Infra : goal.returns-in-Infra
unfolding next_stage
returns-in-Infra c = rw c.in-Infra.is

pub returns-in-Auth : goal.returns-in-Auth
unfolding next_stage
returns-in-Auth c = rw c.in-Auth.is

pub returns-in-Mfp : goal.returns-in-Mfp
unfolding next_stage
returns-in-Mfp c = rw c.in-Mfp.is

pub returns-in_default : goal.returns-in_default
returns-in_default c = others c.args.g c.in_default.not-AntDiv c.in_default.not-Txglom c.in_default.not-Apsta c.in_default.not-BaWsize c.in_default.not-Mpdu c.in_default.not-Wsec c.in_default.not-SupWpa c.in_default.not-Eapver c.in_default.not-Sae c.in_default.not-Infra c.in_default.not-Auth c.in_default.not-Mfp
