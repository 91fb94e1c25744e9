use Prim.Native.Nat.{◌+◌, ◌-◌}
use mathlib.Core.Path.{◌≡◌}
use native.Mathlib.Omega.{arith}
use Rattle.slices.proofs.Over.{length_part}
use Rattle.arriving.proofs.Laws.{result-there}
use Rattle.arriving.proofs.event.hear_brought.Goals as goal

pub hear_result-requires : goal.hear_result-requires
hear_result-requires c = record { s_value = c.requires.s_value; kept_2 = c.requires.kept_2; e_len = omega (arith, length_part c.args.buf.now (c.args.offset + 32) (c.args.offset + 172 - (c.args.offset + 32))) }

pub returns : goal.returns
returns c = let z : c.args.offset + 172 - (c.args.offset + 32) ≡ 140 = omega arith in record { list = rw (result-there c.args.buf.now c.args.offset c.args.len c.told-buf (omega arith) (omega arith), ← z) c.hear_result.ensures.list; kept = c.hear_result.ensures.kept }
