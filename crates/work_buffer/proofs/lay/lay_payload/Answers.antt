use mathlib.Core.Path.{sym}
use Rattle.slices.proofs.Over.{over-nil}
use Rattle.definition.specs.Request.{wlc_up}
use Rattle.work_buffer.proofs.lay.lay_payload.Goals as goal

pub returns-in-Up : goal.returns-in-Up
unfolding wlc_up
returns-in-Up c = rw c.in-Up.is (sym (over-nil _ 0))
