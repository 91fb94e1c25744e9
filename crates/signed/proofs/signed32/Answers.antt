use mathlib.Core.Path.{refl}
use mir.Syntax.{w32}
use Rattle.std.proofs.lemmas.Int.{of_z-to_z}
use Rattle.slices.specs.Le.{signed32}
use Rattle.slices.proofs.Le.{signed_is}
use Rattle.signed.proofs.signed32.Goals as goal

pub returns : goal.returns
unfolding signed32
returns c = rw (c.cast_signed.ensures, of_z-to_z w32 c.args.x c.ranges.x.fits) (signed_is w32 4294967295 c.args.x refl)
