use mathlib.Core.List.{[]}
use native.Mathlib.Omega.{arith}
use Rattle.slices.specs.Le.{le32, bytes_of}
use Rattle.definition.specs.Request.{ascii}
use Rattle.requests.specs.Request.{name_of}
use Rattle.payload.proofs.Lay.{named-is, named_more}
use Rattle.requests.proofs.Number.{name-length}
use Rattle.work_buffer.proofs.lay.put_iovar.Goals as goal

pub returns : goal.returns
unfolding bytes_of
returns c =
    let laid = rw c.name.ensures at c.put_name.ensures in
    (named_more (le32 c.args.x) (named-is (ascii (name_of c.args.v)) [] laid) (omega (arith, name-length c.args.v)) c.put_le32.ensures).is
