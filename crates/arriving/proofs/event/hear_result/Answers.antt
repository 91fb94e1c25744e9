use mathlib.Core.Path.{sym, ◌∙◌}
use Rattle.definition.specs.Event.{scan_result_of}
use Rattle.session_bytes.proofs.Laws.{session-length}
use Rattle.hearing.proofs.Laws.{known-list, heard-list, full-list}
use Rattle.arriving.proofs.Laws.{kept_same, kept-records}
use Rattle.arriving.proofs.event.hear_result.Goals as goal

pub knows_result-requires : goal.knows_result-requires
knows_result-requires c = record { e_len = c.requires.e_len }

pub returns-then-knows_result : goal.returns-then-knows_result
returns-then-knows_result c = record { list = known-list c.args.s.now c.requires.s_value (scan_result_of c.args.e.now) c.count_in-n.ensures (sym c.knows_result.ensures ∙ c.if-knows_result.true); kept = kept_same c.requires.kept_2 }

pub keep_records-requires : goal.keep_records-requires
keep_records-requires c = record { kept = c.requires.kept_2 }

pub returns-then-n-lt32 : goal.returns-then-n-lt32
returns-then-n-lt32 c = record { list = heard-list c.args.s.now c.requires.s_value (scan_result_of c.args.e.now) c.count_in-n.ensures (sym c.knows_result.ensures ∙ c.if-knows_result.false) c.if-n-lt32.true c.add_result.ensures; kept = kept-records c.keep_records.ensures.0 c.keep_records.ensures.1 c.keep_records.ensures.2 c.keep_records.ensures.3 c.keep_records.ensures.4 c.requires.s_value c.add_result.ensures.known }

pub returns-else-n-lt32 : goal.returns-else-n-lt32
returns-else-n-lt32 c = record { list = full-list c.args.s.now c.requires.s_value (scan_result_of c.args.e.now) c.count_in-n.ensures (sym c.knows_result.ensures ∙ c.if-knows_result.false) c.if-n-lt32.false; kept = kept_same c.requires.kept_2 }
