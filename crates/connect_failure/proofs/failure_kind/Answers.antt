use Rattle.connect_failure.specs.Parts.{failure_kind}
use Rattle.connect_failure.proofs.failure_kind.Goals as goal

pub returns-in-AuthFailed : goal.returns-in-AuthFailed
unfolding failure_kind
returns-in-AuthFailed c = simp c.in-AuthFailed.is c.failed.ensures

pub returns-in-AssocFailed : goal.returns-in-AssocFailed
unfolding failure_kind
returns-in-AssocFailed c = simp c.in-AssocFailed.is c.failed-in-AssocFailed.ensures

pub returns-in-SetSsidFailed : goal.returns-in-SetSsidFailed
unfolding failure_kind
returns-in-SetSsidFailed c = simp c.in-SetSsidFailed.is c.failed-in-SetSsidFailed.ensures

pub returns-in-PskFailed : goal.returns-in-PskFailed
unfolding failure_kind
returns-in-PskFailed c = simp c.in-PskFailed.is c.failed-in-PskFailed.ensures

pub returns-in-Pruned : goal.returns-in-Pruned
unfolding failure_kind
returns-in-Pruned c = simp c.in-Pruned.is c.failed-in-Pruned.ensures

pub returns-in-Deauthenticated : goal.returns-in-Deauthenticated
unfolding failure_kind
returns-in-Deauthenticated c = simp c.in-Deauthenticated.is c.failed-in-Deauthenticated.ensures

pub returns-in-Timeout : goal.returns-in-Timeout
unfolding failure_kind
returns-in-Timeout c = simp c.in-Timeout.is c.failed-in-Timeout.ensures
