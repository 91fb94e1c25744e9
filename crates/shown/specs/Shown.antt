-- The failed join that a poll reports: tag, status, reason; zeros where there is none.
use Rattle.std.specs.Prelude.{ℕ, List, [], ◌∷◌}
use Rattle.connect_failure.specs.declared.FailureParts.{FailureParts}
use Rattle.connect_failure.specs.Parts.{failure_parts}
use Rattle.run_end.specs.RunEnd.{failed_of}
use Rattle.wlan.specs.Results.{Outcome}

abbrev pub parts_of : FailureParts → List ℕ
parts_of p = p.tag ∷ p.status ∷ p.reason ∷ []

abbrev pub reported_of : Outcome → List ℕ
reported_of o = parts_of (failure_parts (failed_of o))
