use native.Mathlib.Omega.{arith}
use Rattle.control.specs.Meaning.{laid_request}
use Rattle.laying.proofs.Laws.{laid_kept}
use Rattle.laying.proofs.lay_payload.Goals as goal

pub returns : goal.returns
unfolding laid_request
returns c = record { laid = λ j. c.lay_request.ensures; kept = rw c.lay_request.ensures (laid_kept _ 28 _ c.keep_request.ensures c.told-buf (omega arith) (omega arith)) }
