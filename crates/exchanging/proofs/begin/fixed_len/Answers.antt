use Prim.Native.Nat.{ℕ}
use mathlib.Core.Path.{◌≡◌, refl}
use mathlib.Core.List.{List, [], ◌∷◌}
use types.Run.{OneOf, miss}
use denote.Enum.Declared.{tag_of}
use Rattle.control.specs.declared.Stage.{Stage}
use Rattle.control.specs.contracts.Stage.{the_type}
use Rattle.exchanging.specs.Exchanging.{fixed_len}
use Rattle.exchanging.proofs.begin.fixed_len.Goals as goal

abbrev keys-len-20 : List ℕ
keys-len-20 = 0 ∷ 6 ∷ []

len-20 : (s : Stage) → OneOf keys-len-20 (tag_of the_type s) → 20 ≡ fixed_len s
unfolding fixed_len
len-20 Stage.Country h = refl
len-20 Stage.AntDiv h = absurd (miss keys-len-20 1 tt h)
len-20 Stage.Txglom h = absurd (miss keys-len-20 2 tt h)
len-20 Stage.Apsta h = absurd (miss keys-len-20 3 tt h)
len-20 Stage.BaWsize h = absurd (miss keys-len-20 4 tt h)
len-20 Stage.Mpdu h = absurd (miss keys-len-20 5 tt h)
len-20 Stage.RxFactor h = refl
len-20 Stage.EventMessages h = absurd (miss keys-len-20 7 tt h)
len-20 Stage.InitUp h = absurd (miss keys-len-20 8 tt h)
len-20 Stage.JoinBaWsize h = absurd (miss keys-len-20 9 tt h)
len-20 Stage.Wsec h = absurd (miss keys-len-20 10 tt h)
len-20 Stage.SupWpa h = absurd (miss keys-len-20 11 tt h)
len-20 Stage.Eapver h = absurd (miss keys-len-20 12 tt h)
len-20 Stage.SupWpaTmo h = absurd (miss keys-len-20 13 tt h)
len-20 Stage.Key h = absurd (miss keys-len-20 14 tt h)
len-20 Stage.Sae h = absurd (miss keys-len-20 15 tt h)
len-20 Stage.Infra h = absurd (miss keys-len-20 16 tt h)
len-20 Stage.Auth h = absurd (miss keys-len-20 17 tt h)
len-20 Stage.Mfp h = absurd (miss keys-len-20 18 tt h)
len-20 Stage.WpaAuth h = absurd (miss keys-len-20 19 tt h)
len-20 Stage.Ssid h = absurd (miss keys-len-20 20 tt h)
len-20 Stage.Escan h = absurd (miss keys-len-20 21 tt h)
len-20 Stage.Disassoc h = absurd (miss keys-len-20 22 tt h)
len-20 Stage.Single h = absurd (miss keys-len-20 23 tt h)

abbrev keys-len-4 : List ℕ
keys-len-4 = 1 ∷ 10 ∷ 16 ∷ 17 ∷ 19 ∷ 22 ∷ []

len-4 : (s : Stage) → OneOf keys-len-4 (tag_of the_type s) → 4 ≡ fixed_len s
unfolding fixed_len
len-4 Stage.Country h = absurd (miss keys-len-4 0 tt h)
len-4 Stage.AntDiv h = refl
len-4 Stage.Txglom h = absurd (miss keys-len-4 2 tt h)
len-4 Stage.Apsta h = absurd (miss keys-len-4 3 tt h)
len-4 Stage.BaWsize h = absurd (miss keys-len-4 4 tt h)
len-4 Stage.Mpdu h = absurd (miss keys-len-4 5 tt h)
len-4 Stage.RxFactor h = absurd (miss keys-len-4 6 tt h)
len-4 Stage.EventMessages h = absurd (miss keys-len-4 7 tt h)
len-4 Stage.InitUp h = absurd (miss keys-len-4 8 tt h)
len-4 Stage.JoinBaWsize h = absurd (miss keys-len-4 9 tt h)
len-4 Stage.Wsec h = refl
len-4 Stage.SupWpa h = absurd (miss keys-len-4 11 tt h)
len-4 Stage.Eapver h = absurd (miss keys-len-4 12 tt h)
len-4 Stage.SupWpaTmo h = absurd (miss keys-len-4 13 tt h)
len-4 Stage.Key h = absurd (miss keys-len-4 14 tt h)
len-4 Stage.Sae h = absurd (miss keys-len-4 15 tt h)
len-4 Stage.Infra h = refl
len-4 Stage.Auth h = refl
len-4 Stage.Mfp h = absurd (miss keys-len-4 18 tt h)
len-4 Stage.WpaAuth h = refl
len-4 Stage.Ssid h = absurd (miss keys-len-4 20 tt h)
len-4 Stage.Escan h = absurd (miss keys-len-4 21 tt h)
len-4 Stage.Disassoc h = refl
len-4 Stage.Single h = absurd (miss keys-len-4 23 tt h)

abbrev keys-len-15 : List ℕ
keys-len-15 = 2 ∷ 5 ∷ []

len-15 : (s : Stage) → OneOf keys-len-15 (tag_of the_type s) → 15 ≡ fixed_len s
unfolding fixed_len
len-15 Stage.Country h = absurd (miss keys-len-15 0 tt h)
len-15 Stage.AntDiv h = absurd (miss keys-len-15 1 tt h)
len-15 Stage.Txglom h = refl
len-15 Stage.Apsta h = absurd (miss keys-len-15 3 tt h)
len-15 Stage.BaWsize h = absurd (miss keys-len-15 4 tt h)
len-15 Stage.Mpdu h = refl
len-15 Stage.RxFactor h = absurd (miss keys-len-15 6 tt h)
len-15 Stage.EventMessages h = absurd (miss keys-len-15 7 tt h)
len-15 Stage.InitUp h = absurd (miss keys-len-15 8 tt h)
len-15 Stage.JoinBaWsize h = absurd (miss keys-len-15 9 tt h)
len-15 Stage.Wsec h = absurd (miss keys-len-15 10 tt h)
len-15 Stage.SupWpa h = absurd (miss keys-len-15 11 tt h)
len-15 Stage.Eapver h = absurd (miss keys-len-15 12 tt h)
len-15 Stage.SupWpaTmo h = absurd (miss keys-len-15 13 tt h)
len-15 Stage.Key h = absurd (miss keys-len-15 14 tt h)
len-15 Stage.Sae h = absurd (miss keys-len-15 15 tt h)
len-15 Stage.Infra h = absurd (miss keys-len-15 16 tt h)
len-15 Stage.Auth h = absurd (miss keys-len-15 17 tt h)
len-15 Stage.Mfp h = absurd (miss keys-len-15 18 tt h)
len-15 Stage.WpaAuth h = absurd (miss keys-len-15 19 tt h)
len-15 Stage.Ssid h = absurd (miss keys-len-15 20 tt h)
len-15 Stage.Escan h = absurd (miss keys-len-15 21 tt h)
len-15 Stage.Disassoc h = absurd (miss keys-len-15 22 tt h)
len-15 Stage.Single h = absurd (miss keys-len-15 23 tt h)

abbrev keys-len-19 : List ℕ
keys-len-19 = 4 ∷ 9 ∷ []

len-19 : (s : Stage) → OneOf keys-len-19 (tag_of the_type s) → 19 ≡ fixed_len s
unfolding fixed_len
len-19 Stage.Country h = absurd (miss keys-len-19 0 tt h)
len-19 Stage.AntDiv h = absurd (miss keys-len-19 1 tt h)
len-19 Stage.Txglom h = absurd (miss keys-len-19 2 tt h)
len-19 Stage.Apsta h = absurd (miss keys-len-19 3 tt h)
len-19 Stage.BaWsize h = refl
len-19 Stage.Mpdu h = absurd (miss keys-len-19 5 tt h)
len-19 Stage.RxFactor h = absurd (miss keys-len-19 6 tt h)
len-19 Stage.EventMessages h = absurd (miss keys-len-19 7 tt h)
len-19 Stage.InitUp h = absurd (miss keys-len-19 8 tt h)
len-19 Stage.JoinBaWsize h = refl
len-19 Stage.Wsec h = absurd (miss keys-len-19 10 tt h)
len-19 Stage.SupWpa h = absurd (miss keys-len-19 11 tt h)
len-19 Stage.Eapver h = absurd (miss keys-len-19 12 tt h)
len-19 Stage.SupWpaTmo h = absurd (miss keys-len-19 13 tt h)
len-19 Stage.Key h = absurd (miss keys-len-19 14 tt h)
len-19 Stage.Sae h = absurd (miss keys-len-19 15 tt h)
len-19 Stage.Infra h = absurd (miss keys-len-19 16 tt h)
len-19 Stage.Auth h = absurd (miss keys-len-19 17 tt h)
len-19 Stage.Mfp h = absurd (miss keys-len-19 18 tt h)
len-19 Stage.WpaAuth h = absurd (miss keys-len-19 19 tt h)
len-19 Stage.Ssid h = absurd (miss keys-len-19 20 tt h)
len-19 Stage.Escan h = absurd (miss keys-len-19 21 tt h)
len-19 Stage.Disassoc h = absurd (miss keys-len-19 22 tt h)
len-19 Stage.Single h = absurd (miss keys-len-19 23 tt h)

others : (s : Stage) → (s ≡ Stage.Country → ⊥) → (s ≡ Stage.AntDiv → ⊥) → (s ≡ Stage.Txglom → ⊥) → (s ≡ Stage.Apsta → ⊥) → (s ≡ Stage.BaWsize → ⊥) → (s ≡ Stage.Mpdu → ⊥) → (s ≡ Stage.RxFactor → ⊥) → (s ≡ Stage.EventMessages → ⊥) → (s ≡ Stage.JoinBaWsize → ⊥) → (s ≡ Stage.Wsec → ⊥) → (s ≡ Stage.SupWpa → ⊥) → (s ≡ Stage.Eapver → ⊥) → (s ≡ Stage.SupWpaTmo → ⊥) → (s ≡ Stage.Infra → ⊥) → (s ≡ Stage.Auth → ⊥) → (s ≡ Stage.Mfp → ⊥) → (s ≡ Stage.WpaAuth → ⊥) → (s ≡ Stage.Escan → ⊥) → (s ≡ Stage.Disassoc → ⊥) → 0 ≡ fixed_len s
unfolding fixed_len
others Stage.Country n1 n2 n3 n4 n5 n6 n7 n8 n9 n10 n11 n12 n13 n14 n15 n16 n17 n18 n19 = absurd (n1 refl)
others Stage.AntDiv n1 n2 n3 n4 n5 n6 n7 n8 n9 n10 n11 n12 n13 n14 n15 n16 n17 n18 n19 = absurd (n2 refl)
others Stage.Txglom n1 n2 n3 n4 n5 n6 n7 n8 n9 n10 n11 n12 n13 n14 n15 n16 n17 n18 n19 = absurd (n3 refl)
others Stage.Apsta n1 n2 n3 n4 n5 n6 n7 n8 n9 n10 n11 n12 n13 n14 n15 n16 n17 n18 n19 = absurd (n4 refl)
others Stage.BaWsize n1 n2 n3 n4 n5 n6 n7 n8 n9 n10 n11 n12 n13 n14 n15 n16 n17 n18 n19 = absurd (n5 refl)
others Stage.Mpdu n1 n2 n3 n4 n5 n6 n7 n8 n9 n10 n11 n12 n13 n14 n15 n16 n17 n18 n19 = absurd (n6 refl)
others Stage.RxFactor n1 n2 n3 n4 n5 n6 n7 n8 n9 n10 n11 n12 n13 n14 n15 n16 n17 n18 n19 = absurd (n7 refl)
others Stage.EventMessages n1 n2 n3 n4 n5 n6 n7 n8 n9 n10 n11 n12 n13 n14 n15 n16 n17 n18 n19 = absurd (n8 refl)
others Stage.InitUp n1 n2 n3 n4 n5 n6 n7 n8 n9 n10 n11 n12 n13 n14 n15 n16 n17 n18 n19 = refl
others Stage.JoinBaWsize n1 n2 n3 n4 n5 n6 n7 n8 n9 n10 n11 n12 n13 n14 n15 n16 n17 n18 n19 = absurd (n9 refl)
others Stage.Wsec n1 n2 n3 n4 n5 n6 n7 n8 n9 n10 n11 n12 n13 n14 n15 n16 n17 n18 n19 = absurd (n10 refl)
others Stage.SupWpa n1 n2 n3 n4 n5 n6 n7 n8 n9 n10 n11 n12 n13 n14 n15 n16 n17 n18 n19 = absurd (n11 refl)
others Stage.Eapver n1 n2 n3 n4 n5 n6 n7 n8 n9 n10 n11 n12 n13 n14 n15 n16 n17 n18 n19 = absurd (n12 refl)
others Stage.SupWpaTmo n1 n2 n3 n4 n5 n6 n7 n8 n9 n10 n11 n12 n13 n14 n15 n16 n17 n18 n19 = absurd (n13 refl)
others Stage.Key n1 n2 n3 n4 n5 n6 n7 n8 n9 n10 n11 n12 n13 n14 n15 n16 n17 n18 n19 = refl
others Stage.Sae n1 n2 n3 n4 n5 n6 n7 n8 n9 n10 n11 n12 n13 n14 n15 n16 n17 n18 n19 = refl
others Stage.Infra n1 n2 n3 n4 n5 n6 n7 n8 n9 n10 n11 n12 n13 n14 n15 n16 n17 n18 n19 = absurd (n14 refl)
others Stage.Auth n1 n2 n3 n4 n5 n6 n7 n8 n9 n10 n11 n12 n13 n14 n15 n16 n17 n18 n19 = absurd (n15 refl)
others Stage.Mfp n1 n2 n3 n4 n5 n6 n7 n8 n9 n10 n11 n12 n13 n14 n15 n16 n17 n18 n19 = absurd (n16 refl)
others Stage.WpaAuth n1 n2 n3 n4 n5 n6 n7 n8 n9 n10 n11 n12 n13 n14 n15 n16 n17 n18 n19 = absurd (n17 refl)
others Stage.Ssid n1 n2 n3 n4 n5 n6 n7 n8 n9 n10 n11 n12 n13 n14 n15 n16 n17 n18 n19 = refl
others Stage.Escan n1 n2 n3 n4 n5 n6 n7 n8 n9 n10 n11 n12 n13 n14 n15 n16 n17 n18 n19 = absurd (n18 refl)
others Stage.Disassoc n1 n2 n3 n4 n5 n6 n7 n8 n9 n10 n11 n12 n13 n14 n15 n16 n17 n18 n19 = absurd (n19 refl)
others Stage.Single n1 n2 n3 n4 n5 n6 n7 n8 n9 n10 n11 n12 n13 n14 n15 n16 n17 n18 n19 = refl

pub returns-in-Country : goal.returns-in-Country
returns-in-Country c = len-20 c.args.g c.in-Country.in-Country-own.keys1

pub returns-in-AntDiv : goal.returns-in-AntDiv
returns-in-AntDiv c = len-4 c.args.g c.in-AntDiv.in-AntDiv-own.keys2

pub returns-in-Txglom : goal.returns-in-Txglom
returns-in-Txglom c = len-15 c.args.g c.in-Txglom.in-Txglom-own.keys3

pub returns-in-Apsta : goal.returns-in-Apsta
unfolding fixed_len
returns-in-Apsta c = rw c.in-Apsta.is

pub returns-in-BaWsize : goal.returns-in-BaWsize
returns-in-BaWsize c = len-19 c.args.g c.in-BaWsize.in-BaWsize-own.keys5

pub returns-in-EventMessages : goal.returns-in-EventMessages
unfolding fixed_len
returns-in-EventMessages c = rw c.in-EventMessages.is

pub returns-in-SupWpa : goal.returns-in-SupWpa
unfolding fixed_len
returns-in-SupWpa c = rw c.in-SupWpa.is

pub returns-in-Eapver : goal.returns-in-Eapver
unfolding fixed_len
returns-in-Eapver c = rw c.in-Eapver.is

pub returns-in-SupWpaTmo : goal.returns-in-SupWpaTmo
unfolding fixed_len
returns-in-SupWpaTmo c = rw c.in-SupWpaTmo.is

pub returns-in-Mfp : goal.returns-in-Mfp
unfolding fixed_len
returns-in-Mfp c = rw c.in-Mfp.is

pub returns-in-Escan : goal.returns-in-Escan
unfolding fixed_len
returns-in-Escan c = rw c.in-Escan.is

pub returns-in_default : goal.returns-in_default
returns-in_default c = others c.args.g c.in_default.not-Country c.in_default.not-AntDiv c.in_default.not-Txglom c.in_default.not-Apsta c.in_default.not-BaWsize c.in_default.not-Mpdu c.in_default.not-RxFactor c.in_default.not-EventMessages c.in_default.not-JoinBaWsize c.in_default.not-Wsec c.in_default.not-SupWpa c.in_default.not-Eapver c.in_default.not-SupWpaTmo c.in_default.not-Infra c.in_default.not-Auth c.in_default.not-Mfp c.in_default.not-WpaAuth c.in_default.not-Escan c.in_default.not-Disassoc
