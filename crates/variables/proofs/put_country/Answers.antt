use Prim.Native.Nat.{◌%◌}
use mathlib.Core.List.{[]}
use mathlib.Core.Path.{refl}
use Rattle.slices.specs.Le.{le32}
use Rattle.definition.specs.Request.{ascii, country}
use Rattle.payload.proofs.Lay.{named-is, named_more}
use Rattle.variables.proofs.put_country.Goals as goal

pub returns : goal.returns
unfolding ascii country
returns c =
    let code = le32 (c.args.c % 65536) in
    let rev = rw c.revision.ensures at c.put_le32-2.ensures in
    (named_more code (named_more _ (named_more code (named-is (ascii "country") [] c.put_name.ensures) refl c.put_le32.ensures) refl rev) refl c.put_le32-3.ensures).is
