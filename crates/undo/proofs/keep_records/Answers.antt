use mathlib.Core.Path.{refl}
use borrow.Author.Tests.{eq-eqb, ne_eqb}
use Rattle.slices.proofs.Over.{set-over}
use Rattle.undo.proofs.Keeping.{full-all}
use Rattle.undo.proofs.keep_records.Goals as goal

pub returns-then-undo-eq1 : goal.returns-then-undo-eq1
returns-then-undo-eq1 c = (c.requires.kept, eq-eqb _ 1 c.if-undo-eq1.true, refl, λ b. refl, refl)

pub returns : goal.returns
returns c = rw (set-over c.copy.new.dst 2 1, c.copy.ensures) (full-all c.args.undo.now c.args.session.now c.requires.kept c.told-session (ne_eqb _ 1 c.if-undo-eq1.false))
