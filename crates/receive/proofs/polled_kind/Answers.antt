use Rattle.receive.specs.Receive.{polled_kind}
use Rattle.receive.proofs.polled_kind.Goals as goal

pub returns-in-None : goal.returns-in-None
unfolding polled_kind
returns-in-None c = simp c.in-None.is

pub returns-in-Control : goal.returns-in-Control
unfolding polled_kind
returns-in-Control c = simp c.in-Control.is

pub returns-in-AsyncEvent : goal.returns-in-AsyncEvent
unfolding polled_kind
returns-in-AsyncEvent c = simp c.in-AsyncEvent.is

pub returns-in-Data : goal.returns-in-Data
unfolding polled_kind
returns-in-Data c = simp c.in-Data.is

pub returns-in-HeaderBeyond : goal.returns-in-HeaderBeyond
unfolding polled_kind
returns-in-HeaderBeyond c = simp c.in-HeaderBeyond.is
