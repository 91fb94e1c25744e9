use mathlib.Core.List.{[], ◌∷◌}
use mathlib.Core.Path.{refl}
use native.Mathlib.Omega.{arith}
use Rattle.slices.proofs.Over as o
use Rattle.payload.proofs.put_name.Goals as goal

pub returns : goal.returns
returns c =
    let r : o.Run c.args.part.now 0 c.args.name.now c.copy_over.new.dst = o.run_more c.args.name.now o.run_none refl c.copy_over.ensures in
    (o.run_more (0 ∷ []) r (omega arith) c.fill_zero.ensures).is
