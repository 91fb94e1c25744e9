use native.Mathlib.Omega.{arith}
use lib.ListN.{length-take}
use Rattle.session.proofs.Plays.{output-zeros}
use Rattle.session.proofs.Plays.{carried}
use Rattle.session.proofs.Shows.{shows}
use Rattle.session.proofs.play.Goals as goal

pub slice_bounds-play_call-end-2 : goal.slice_bounds-play_call-end-2
slice_bounds-play_call-end-2 c = simp length-take (omega arith)

pub play_call-r-requires : goal.play_call-r-requires
play_call-r-requires c = record { s_value = c.requires.s_value; out_value = (output-zeros _ _ _ c.zero_bytes-out.ensures.value c.output_length-n.ensures c.requires.args_bound) }

pub slice_bounds-write_all-end-2 : goal.slice_bounds-write_all-end-2
slice_bounds-write_all-end-2 c = simp length-take (omega arith)

pub returns : goal.returns
returns c =
    record { held = c.play_call-r.ensures.held; finds = carried c.args.x.rec.now c.args.s.now c.args.buf.now c.args.x.args.now c.args.x.call c.log_words-log.ensures.value (output-zeros _ _ _ c.zero_bytes-out.ensures.value c.output_length-n.ensures c.requires.args_bound) c.play_call-r.ensures; shows = shows c.args.x.rec.now c.args.s.now c.args.buf.now c.args.x.args.now _ c.args.x.call _ c.log_words-log.ensures.value (output-zeros _ _ _ c.zero_bytes-out.ensures.value c.output_length-n.ensures c.requires.args_bound) c.play_call-r.ensures c.put_lines-k.ensures.text_after c.put_lines-k.ensures.upper_bound }

pub put_lines-k-requires : goal.put_lines-k-requires
put_lines-k-requires c = record { s_value = c.play_call-r.ensures.held; in_bounds = c.requires.in_bounds; log_len_bound = omega (arith, c.play_call-r.auto.log, c.log_words-log.ensures.value_2) }
