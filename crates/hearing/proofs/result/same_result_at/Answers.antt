use mathlib.Core.Path.{sym, ◌∙◌}
use Rattle.hearing.proofs.Brought.{result-same}
use Rattle.hearing.proofs.result.same_result_at.Goals as goal

pub returns-then-same_bssid_at : goal.returns-then-same_bssid_at
returns-then-same_bssid_at c = rw (result-same c.args.s.now c.args.e.now c.args.at, sym c.same_bssid_at.ensures ∙ c.if-same_bssid_at.true)

pub returns-else-same_bssid_at : goal.returns-else-same_bssid_at
returns-else-same_bssid_at c = rw (result-same c.args.s.now c.args.e.now c.args.at, sym c.same_bssid_at.ensures ∙ c.if-same_bssid_at.false) c.if-same_bssid_at.false
