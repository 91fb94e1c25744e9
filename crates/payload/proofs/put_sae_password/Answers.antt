use borrow.Author.Rules.{rules}
use mathlib.Core.List.{[]}
use mathlib.Core.Path.{refl}
use lib.ListN.{length}
use Rattle.slices.specs.Le.{le16}
use Rattle.definition.specs.Request.{ascii, sae_password, filled}
use Rattle.payload.proofs.Lay.{named-is, named_more}
use Rattle.payload.proofs.put_sae_password.Goals as goal

pub returns : goal.returns
unfolding ascii sae_password
returns c =
    let p = c.args.passphrase.now in
    (named_more (filled 128 p) (named_more (le16 (length p)) (named-is (ascii "sae_password") [] c.put_name.ensures) refl c.put_low16.ensures) refl c.put_filled.ensures).is
