use mathlib.Core.Path.{◌≡◌, refl, sym, ◌∙◌}
use mathlib.Core.Bool.{true, false}
use Prim.Native.Nat.{suc, ◌-◌, ◌<◌}
use native.Mathlib.Omega.{arith}
use mir.Syntax.{w32}
use mir.Val.{SFits, of_z}
use lib.Dec.{eqb}
use lib.IntN.{ℤ, pos, negsuc}
use borrow.Author.Tests.{lt-ltb, le-ltb, eq-eqb, ne_eqb}
use Rattle.definition.specs.Ioctl.{is_zero}
use Rattle.ioctl.specs.Ioctl.{finish_step}
use Rattle.reply_points.proofs.finish.Goals as goal
use Rattle.std.specs.Prelude.{None}

-- a number below zero has bits
zero_is : (z : ℤ) → SFits w32 z → eqb (of_z w32 z) 0 ≡ is_zero z
unfolding is_zero
zero_is (pos n) h = refl
zero_is (negsuc n) h =
    let e : n < 2147483648 = h.sfits in
    ne_eqb (4294967296 - suc n) 0 (λ d. omega arith)

pub returns-then-offset-m-gt2048 : goal.returns-then-offset-m-gt2048
unfolding finish_step
returns-then-offset-m-gt2048 c = let z : is_zero c.args.status ≡ true = sym (zero_is c.args.status c.ranges.status) ∙ eq-eqb _ _ c.if-status-eq0.true in λ s h. simp (z, ← c.shorter-m.ensures, lt-ltb _ _ c.if-offset-m-gt2048.true, c.refuse.ensures None)

pub returns-then-status-eq0 : goal.returns-then-status-eq0
unfolding finish_step
returns-then-status-eq0 c = let z : is_zero c.args.status ≡ true = sym (zero_is c.args.status c.ranges.status) ∙ eq-eqb _ _ c.if-status-eq0.true in λ s h. simp (z, ← c.shorter-m.ensures, le-ltb _ _ c.if-offset-m-gt2048.false, c.done.ensures None)

pub returns : goal.returns
unfolding finish_step
returns c = let z : is_zero c.args.status ≡ false = sym (zero_is c.args.status c.ranges.status) ∙ ne_eqb _ _ c.if-status-eq0.false in λ s h. simp (z, c.refuse-2.ensures None)
