use mathlib.Core.Path.{◌≡◌}
use mathlib.Core.Bool.{true}
use Rattle.session_bytes.specs.Session.{is_session}
use Rattle.observer.proofs.main.Given as goal

abbrev pub invariant-loop : goal.invariant-loop
invariant-loop l = is_session l.s ≡ true
