use Rattle.std.proofs.Common.{arith}
use lib.Bits.{and_high}
use Rattle.sdpcm.proofs.status.pending.Goals as goal

-- bits 9 to 19
pub returns : goal.returns
returns c = omega (arith, and_high c.args.status 11 9)
