use native.Mathlib.Omega.{arith}
use Rattle.slices.proofs.Over.{length_part}
use Rattle.hearing.proofs.Brought.{next-put}
use Rattle.hearing.proofs.result.put_rest.Goals as goal

pub returns : goal.returns
returns c = next-put c.args.s.now c.args.at _ _ _ (omega (arith, length_part c.args.e.now 68 6)) c.put_whole.ensures c.put_whole-2.ensures
