use borrow.Author.Tests.{eq-eqb}
use Rattle.lines.proofs.input.output_length.Goals as goal

pub returns-then-args-eq4 : goal.returns-then-args-eq4
returns-then-args-eq4 c = rw (eq-eqb c.args.call 8 c.if-call-eq8.true, c.if-args-eq4.true) c.get_le32.ensures
