use mathlib.Core.Path.{refl}
use Rattle.control.specs.Steps.{pause_ns}
use Rattle.plans.specs.Plans.{pause_by}
use Rattle.exchange_call.proofs.pause_ns.Goals as goal

pub returns-in-AfterCountry : goal.returns-in-AfterCountry
unfolding pause_ns pause_by
returns-in-AfterCountry c = rw c.in-AfterCountry.is refl

pub returns-in-Settle : goal.returns-in-Settle
unfolding pause_ns pause_by
returns-in-Settle c = rw c.in-Settle.is refl

pub returns-in-AfterEventMessages : goal.returns-in-AfterEventMessages
unfolding pause_ns pause_by
returns-in-AfterEventMessages c = rw c.in-AfterEventMessages.is refl

pub returns-in-AfterUp : goal.returns-in-AfterUp
unfolding pause_ns pause_by
returns-in-AfterUp c = rw c.in-AfterUp.is refl

pub returns-in-BeforeKey : goal.returns-in-BeforeKey
unfolding pause_ns pause_by
returns-in-BeforeKey c = rw c.in-BeforeKey.is refl

pub returns-in-BeforeSae : goal.returns-in-BeforeSae
unfolding pause_ns pause_by
returns-in-BeforeSae c = rw c.in-BeforeSae.is refl
