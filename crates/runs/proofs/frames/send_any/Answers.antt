use mathlib.Core.Path.{sym, ◌∙◌}
use Rattle.definition.specs.Calls.{Call}
use Rattle.turning.specs.Turning.{world_in}
use Rattle.runs.proofs.Laws as law
use Rattle.runs.proofs.frames.send_any.Goals as goal

pub returns-then-frame-le2030 : goal.returns-then-frame-le2030
returns-then-frame-le2030 c = record { ends = rw (law.send-called c.args.interface c.args.frame.now c.args.s.now c.args.rec.now c.args.log.now c.args.buf.now (sym c.is_interface.ensures ∙ c.if-is_interface.true) c.if-frame-le2030.true c.told-buf) at (c.send_run.ensures.on (world_in c.args.s.now c.args.buf.now)); held = c.send_run.ensures.held; kept = c.send_run.ensures.kept }

pub returns-then-is_interface : goal.returns-then-is_interface
returns-then-is_interface c = law.refused-runs (Call.send_data c.args.interface c.args.frame.now) c.args.s.now c.args.rec.now c.args.log.now c.args.undo.now c.args.buf.now _ c.requires.s_value c.requires.kept c.told-buf (λ w. law.long-frame c.args.interface c.args.frame.now w (sym c.is_interface.ensures ∙ c.if-is_interface.true) c.if-frame-le2030.false) c.error_end.ensures.0

pub returns : goal.returns
returns c = law.refused-runs (Call.send_data c.args.interface c.args.frame.now) c.args.s.now c.args.rec.now c.args.log.now c.args.undo.now c.args.buf.now _ c.requires.s_value c.requires.kept c.told-buf (λ w. law.bad-interface c.args.interface c.args.frame.now w (sym c.is_interface.ensures ∙ c.if-is_interface.false)) c.error_end-2.ensures.0
