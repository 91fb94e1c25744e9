use mathlib.Core.List.{[]}
use mathlib.Core.Path.{refl}
use lib.ListN.{replicate}
use Rattle.definition.specs.Request.{ascii, current_address}
use Rattle.payload.proofs.Lay.{named-is, named_more}
use Rattle.variables.proofs.put_address.Goals as goal

pub returns : goal.returns
unfolding ascii current_address
returns c = (named_more (replicate 6 0) (named-is (ascii "cur_etheraddr") [] c.put_name.ensures) refl c.fill_zero.ensures).is
