use mathlib.Core.List.{[]}
use native.Mathlib.Omega.{arith}
use Rattle.payload.proofs.Lay.{named-is, named_more}
use Rattle.payload.proofs.put_variable.Goals as goal

pub returns : goal.returns
returns c =
    (named_more c.args.bytes.now (named-is c.args.name.now [] c.put_name.ensures) (omega arith) c.copy_over.ensures).is
