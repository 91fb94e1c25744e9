use mathlib.Core.Path.{ap}
use Rattle.shown.specs.Shown.{parts_of}
use Rattle.shown.proofs.report.reported.Goals as goal

pub returns : goal.returns
returns c = λ o t. ap parts_of t.failure
