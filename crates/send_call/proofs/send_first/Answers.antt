use mathlib.Core.Path.{◌∙◌}
use mathlib.Core.List.{[]}
use Rattle.definition.specs.Event.{event_of}
use Rattle.send_call.proofs.Laws.{send-starts}
use borrow.Author.Rules.{rules}
use Rattle.send_call.proofs.send_first.Goals as goal

pub send_start-requires : goal.send_start-requires
send_start-requires c = record { s_value = c.requires.s_value; kept = c.lay_frame.ensures.kept.kept }

pub returns : goal.returns
returns c = let k = rw c.out_of.ensures at (c.send_start.ensures (event_of [] 0)) in record { on = send-starts c.args.frame.now c.args.interface c.args.buf.now c.lay_frame.ensures.laid k; held = k.held.known; kept = record { kept = k.kept; session = k.session ∙ c.lay_frame.ensures.kept.session c.args.s.now; buf = k.buf ∙ c.lay_frame.ensures.kept.buf } }
