use native.Mathlib.Omega.{arith}
use lib.ListN.{length-take}
use Rattle.session.proofs.Plays.{output-zeros}
use Rattle.observed.proofs.play_on.Goals as goal

pub slice_bounds-play-end : goal.slice_bounds-play-end
slice_bounds-play-end c = simp length-take (omega arith)

pub play-requires : goal.play-requires
play-requires c =
    record {
      s_value = c.requires.s_value;
      log_len_bound = c.requires.log_len_bound;
      out_value = output-zeros _ _ _ c.zero_bytes-out.ensures.value c.output_length-n.ensures c.requires.args_bound;
      in_bounds = c.requires.in_bounds;
    }
