-- What holds of both ways of a `pick`, each where its condition says so, holds of it.
use mathlib.Core.Path.{◌≡◌, refl}
use mathlib.Core.Bool.{Bool, true, false}
use Rattle.slices.specs.Pick.{pick}

pub by-pick {ℓ κ} : {A : Type ℓ} (P : A → Type κ) (v : Bool) {x y : A} → (v ≡ true → P x) → (v ≡ false → P y) → P (pick v x y)
by-pick P true f g = f refl
by-pick P false f g = g refl
