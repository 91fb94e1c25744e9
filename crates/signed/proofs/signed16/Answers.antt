use mathlib.Core.Path.{refl}
use mir.Syntax.{w16}
use Rattle.std.proofs.lemmas.Int.{of_z-to_z}
use Rattle.slices.specs.Le.{signed16}
use Rattle.slices.proofs.Le.{signed_is}
use Rattle.signed.proofs.signed16.Goals as goal

pub returns : goal.returns
unfolding signed16
returns c = rw (c.cast_signed.ensures, of_z-to_z w16 c.args.x c.ranges.x.fits) (signed_is w16 65535 c.args.x refl)
