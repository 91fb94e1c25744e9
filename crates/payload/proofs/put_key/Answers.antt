use mathlib.Core.Path.{refl}
use lib.ListN.{length}
use Rattle.slices.proofs.Over as o
use Rattle.slices.specs.Le.{le16}
use Rattle.definition.specs.Request.{set_key, filled}
use Rattle.payload.proofs.put_key.Goals as goal

pub returns : goal.returns
unfolding set_key
returns c =
    let p = c.args.passphrase.now in
    (o.run_more (filled 64 p) (o.run_more (le16 1) (o.run_more (le16 (length p)) o.run_none refl c.put_low16.ensures) refl c.put_le16.ensures) refl c.put_filled.ensures).is
