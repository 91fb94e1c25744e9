use native.Mathlib.Omega.{arith}
use Rattle.requests.proofs.Number.{payload-length}
use Rattle.laying.proofs.keep_request.Goals as goal

pub returns : goal.returns
returns c = record { kept = c.keep.ensures.0; to = omega (arith, payload-length c.args.r c.args.first.now c.args.second.now, c.keep.ensures.1, c.payload_len.ensures, c.fitting-n.ensures); session = c.keep.ensures.2; buf = c.keep.ensures.3 }
