use mathlib.Core.Path.{refl}
use lib.ListN.{length}
use Rattle.slices.proofs.Over as o
use Rattle.slices.specs.Le.{le32}
use Rattle.definition.specs.Request.{join_ssid, filled}
use Rattle.payload.proofs.put_ssid.Goals as goal

pub returns : goal.returns
unfolding join_ssid
returns c =
    let s = c.args.ssid.now in
    (o.run_more (filled 32 s) (o.run_more (le32 (length s)) o.run_none refl c.put_low32.ensures) refl c.put_filled.ensures).is
