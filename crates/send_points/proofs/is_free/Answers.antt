use mathlib.Core.Path.{◌≡◌}
use native.Mathlib.Omega.{arith}
use borrow.Author.Tests.{eq-eqb, ne_eqb}
use Rattle.definition.specs.Send.{free}
use Rattle.send_points.proofs.is_free.Goals as goal

pub returns-then-t-eq0 : goal.returns-then-t-eq0
unfolding free
returns-then-t-eq0 c = let e : c.sdpcm_at-t.result.wlan_flow_control ≡ 0 = omega arith in simp (← c.sdpcm_at-t.ensures, eq-eqb _ _ e)

pub returns-else-t-eq0 : goal.returns-else-t-eq0
unfolding free
returns-else-t-eq0 c = let e : c.sdpcm_at-t.result.wlan_flow_control ≡ 0 → ⊥ = λ h. omega arith in simp (← c.sdpcm_at-t.ensures, ne_eqb _ _ e)
