use native.Mathlib.Omega.{arith}
use Rattle.hearing.proofs.Brought.{result-put, result-whole}
use Rattle.hearing.proofs.result.put_result.Goals as goal

pub returns : goal.returns
returns c = record { put = result-put c.args.e.now c.requires.e_len (λ i. omega (arith, c.type_inv.e i)) c.args.s.now c.args.at c.min-n.result c.min-n.ensures (rw c.from.ensures at c.put_ssid.ensures) c.put_rest.ensures; back = result-whole c.args.e.now c.requires.e_len (λ i. omega (arith, c.type_inv.e i)) }
