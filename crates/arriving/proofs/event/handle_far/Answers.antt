use mathlib.Core.Path.{sym, ◌∙◌}
use lib.ListN.{drop}
use Rattle.definition.specs.Event.{event_of}
use Rattle.arriving.proofs.Laws.{numbers-from, result-from, network-there, none-there, kept_same, kept-state}
use Rattle.arriving.proofs.event.handle_far.Goals as goal

pub returns-then-brings_network : goal.returns-then-brings_network
returns-then-brings_network c = record { held = network-there c.args.s.now (event_of (drop c.args.offset c.args.buf.now) c.args.len) c.numbers_in-n.result (numbers-from (drop c.args.offset c.args.buf.now) c.args.len c.event_from-e.result c.event_from-e.ensures c.numbers_in-n.result c.numbers_in-n.ensures) (sym c.brings_network.ensures ∙ c.if-brings_network.true) (rw (result-from (drop c.args.offset c.args.buf.now) c.args.len c.event_from-e.result c.event_from-e.ensures) at c.hear_result.ensures.list); kept = c.hear_result.ensures.kept }

pub returns : goal.returns
returns c = record { held = none-there c.args.s.now (event_of (drop c.args.offset c.args.buf.now) c.args.len) c.numbers_in-n.result (numbers-from (drop c.args.offset c.args.buf.now) c.args.len c.event_from-e.result c.event_from-e.ensures c.numbers_in-n.result c.numbers_in-n.ensures) (sym c.brings_network.ensures ∙ c.if-brings_network.false) c.handle_numbers.ensures; kept = kept-state _ (kept_same c.requires.kept_2) c.requires.s_value (c.handle_numbers.ensures (event_of (drop c.args.offset c.args.buf.now) c.args.len).scan_result) }
