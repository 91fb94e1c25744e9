use native.Mathlib.Omega.{arith}
use lib.ListN.{length-take}
use Rattle.observed.proofs.play.Goals as goal

pub play_call-r-requires : goal.play_call-r-requires
play_call-r-requires c = record { s_value = c.requires.s_value; out_value = c.requires.out_value }

pub slice_bounds-write_all-end-2 : goal.slice_bounds-write_all-end-2
slice_bounds-write_all-end-2 c = simp length-take (omega arith)

pub put_lines-k-requires : goal.put_lines-k-requires
put_lines-k-requires c = record { s_value = c.play_call-r.ensures.held; in_bounds = c.requires.in_bounds; log_len_bound = omega (arith, c.play_call-r.auto.log, c.requires.log_len_bound) }
