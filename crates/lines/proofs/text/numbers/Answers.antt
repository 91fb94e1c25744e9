use mathlib.Core.Path.{ap, ◌∙◌}
use mathlib.Core.List.{List, ◌∷◌}
use Prim.Native.Nat.{ℕ}
use Rattle.definition.specs.Player.{state_number}
use Rattle.lines.proofs.Ends.{numbers-are}
use Rattle.lines.proofs.text.numbers.Goals as goal

pub returns : goal.returns
returns c = λ e log h. ap (λ (l : List ℕ). c.args.call ∷ l) (numbers-are e log c.args.s.now c.args.r c.sdpcm_at-sdpcm.result _ _ h c.refusal_number.ensures (c.state_number.ensures ∙ ap state_number c.wifi_at-state.ensures) c.sdpcm_at-sdpcm.ensures)
