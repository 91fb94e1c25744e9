use mathlib.Core.Path.{◌≡◌, refl}
use Rattle.control.specs.declared.Stage.{Stage}
use mathlib.Core.Path.{◌∙◌}
use Rattle.control.specs.declared.Job.{Job}
use Rattle.control.specs.declared.Lens.{Lens}
use Rattle.control.specs.Stages.{request_at, request_len}
use Rattle.exchanging.specs.Exchanging.{fixed_len}
use Rattle.exchanging.proofs.begin.stage_len.Goals as goal

fixed : (j : Job) (l : Lens) (s : Stage) → (s ≡ Stage.Key → ⊥) → (s ≡ Stage.Sae → ⊥) → (s ≡ Stage.Ssid → ⊥) → (s ≡ Stage.Single → ⊥) → fixed_len s ≡ request_len (request_at j s) l
unfolding fixed_len request_at request_len
fixed j l Stage.Country n1 n2 n3 n4 = refl
fixed j l Stage.AntDiv n1 n2 n3 n4 = refl
fixed j l Stage.Txglom n1 n2 n3 n4 = refl
fixed j l Stage.Apsta n1 n2 n3 n4 = refl
fixed j l Stage.BaWsize n1 n2 n3 n4 = refl
fixed j l Stage.Mpdu n1 n2 n3 n4 = refl
fixed j l Stage.RxFactor n1 n2 n3 n4 = refl
fixed j l Stage.EventMessages n1 n2 n3 n4 = refl
fixed j l Stage.InitUp n1 n2 n3 n4 = refl
fixed j l Stage.JoinBaWsize n1 n2 n3 n4 = refl
fixed j l Stage.Wsec n1 n2 n3 n4 = refl
fixed j l Stage.SupWpa n1 n2 n3 n4 = refl
fixed j l Stage.Eapver n1 n2 n3 n4 = refl
fixed j l Stage.SupWpaTmo n1 n2 n3 n4 = refl
fixed j l Stage.Key n1 n2 n3 n4 = absurd (n1 refl)
fixed j l Stage.Sae n1 n2 n3 n4 = absurd (n2 refl)
fixed j l Stage.Infra n1 n2 n3 n4 = refl
fixed j l Stage.Auth n1 n2 n3 n4 = refl
fixed j l Stage.Mfp n1 n2 n3 n4 = refl
fixed j l Stage.WpaAuth n1 n2 n3 n4 = refl
fixed j l Stage.Ssid n1 n2 n3 n4 = absurd (n3 refl)
fixed j l Stage.Escan n1 n2 n3 n4 = refl
fixed j l Stage.Disassoc n1 n2 n3 n4 = refl
fixed j l Stage.Single n1 n2 n3 n4 = absurd (n4 refl)

pub returns-in-Key : goal.returns-in-Key
unfolding request_at
returns-in-Key c = rw c.in-Key.is c.request_len.ensures

pub returns-in-Sae : goal.returns-in-Sae
unfolding request_at
returns-in-Sae c = rw c.in-Sae.is c.request_len-in-Sae.ensures

pub returns-in-Ssid : goal.returns-in-Ssid
unfolding request_at
returns-in-Ssid c = rw c.in-Ssid.is c.request_len-in-Ssid.ensures

pub returns-in-Single : goal.returns-in-Single
unfolding request_at
returns-in-Single c = rw c.in-Single.is c.request_len-in-Single.ensures

pub returns-in_default : goal.returns-in_default
returns-in_default c = c.fixed_len.ensures ∙ fixed c.args.j c.args.l c.args.g c.in_default.not-Key c.in_default.not-Sae c.in_default.not-Ssid c.in_default.not-Single
