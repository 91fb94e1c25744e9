use native.Mathlib.Omega.{arith}
use Rattle.session_bytes.proofs.Laws.{session-length}
use Rattle.definition.specs.Event.{scan_result_of}
use Rattle.hearing.proofs.Laws.{added-list}
use Rattle.hearing.proofs.result.add_result.Goals as goal

pub put_result-requires : goal.put_result-requires
put_result-requires c = record { at_in_bounds = omega (arith, session-length c.args.s.now c.requires.s_value); e_len = c.requires.e_len }

pub put_count-requires : goal.put_count-requires
put_count-requires c = omega (arith, session-length c.args.s.now c.requires.s_value)

pub returns : goal.returns
returns c = added-list c.args.s.now c.requires.s_value c.args.n (scan_result_of c.args.e.now) c.put_result.ensures.back c.requires.n_value.0 c.requires.n_value.1 c.put_result.ensures.put c.put_count.ensures
