use native.Mathlib.Omega.{arith}
use Rattle.bus.proofs.Landed.{unit-some, seam-fits, seam-bytes}
use Rattle.bus.proofs.read.seam.Goals as goal

pub nonzero_div-result : goal.nonzero_div-result
nonzero_div-result c = unit-some c.args.r c.requires

pub overflow_mul-result : goal.overflow_mul-result
overflow_mul-result c = omega (arith, seam-fits c.args.own c.args.next c.args.r (omega arith) c.requires)

pub nonzero_rem-result : goal.nonzero_rem-result
nonzero_rem-result c = unit-some c.args.r c.requires

pub overflow_add-result : goal.overflow_add-result
overflow_add-result c = record { fits = seam-fits c.args.own _ c.args.r (omega arith) c.requires }

pub returns : goal.returns
returns c = seam-bytes c.args.own c.args.next c.args.r c.requires
