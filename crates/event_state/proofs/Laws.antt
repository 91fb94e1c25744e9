-- A scan result is none of the events that a connection heeds.
use mathlib.Core.Path.{◌≡◌, refl, ap, sym, ◌∙◌}
use mathlib.Core.Bool.{true, Bool, false, true≢false}
use Prim.Native.Nat.{ℕ}
use borrow.Author.Tests.{eqb-true}
use lib.Dec.{eqb}
use Rattle.event_state.specs.EventState.{is_link}

other-than : (t : ℕ) (b : Bool) → eqb t 69 ≡ b → is_link t ≡ true → b ≡ false
unfolding is_link
other-than t true e h = absurd (true≢false (sym h ∙ ap is_link (eqb-true t 69 e)))
other-than t false e h = refl

pub not-69 : (t : ℕ) → is_link t ≡ true → eqb t 69 ≡ false
not-69 t h = other-than t (eqb t 69) refl h
