use Prim.Native.Nat.{◌+◌, ◌-◌}
use mathlib.Core.Path.{sym, ◌∙◌}
use lib.ListN.{drop}
use Rattle.definition.specs.Event.{event_of}
use native.Mathlib.Omega.{arith}
use Rattle.arriving.proofs.Laws.{event-there, network-there, none-there, kept_same, kept-state}
use Rattle.arriving.proofs.event.handle_there.Goals as goal

pub returns-then-brings_network : goal.returns-then-brings_network
returns-then-brings_network c = record { held = network-there c.args.s.now (event_of (drop c.args.offset c.args.buf.now) c.args.len) c.numbers_in-n.result (event-there c.args.buf.now c.args.offset c.args.len c.told-buf c.requires.le_len.0 c.requires.le_len.1 c.numbers_in-n.result (c.args.offset + 48 - (c.args.offset + 32)) (omega arith) c.numbers_in-n.ensures) (sym c.brings_network.ensures ∙ c.if-brings_network.true) c.hear_brought.ensures.list; kept = c.hear_brought.ensures.kept }

pub returns : goal.returns
returns c = record { held = none-there c.args.s.now (event_of (drop c.args.offset c.args.buf.now) c.args.len) c.numbers_in-n.result (event-there c.args.buf.now c.args.offset c.args.len c.told-buf c.requires.le_len.0 c.requires.le_len.1 c.numbers_in-n.result (c.args.offset + 48 - (c.args.offset + 32)) (omega arith) c.numbers_in-n.ensures) (sym c.brings_network.ensures ∙ c.if-brings_network.false) c.handle_numbers.ensures; kept = kept-state _ (kept_same c.requires.kept_2) c.requires.s_value (c.handle_numbers.ensures (event_of (drop c.args.offset c.args.buf.now) c.args.len).scan_result) }
