use mathlib.Core.Bool.{false}
use Rattle.control.specs.declared.Before.{Before}
use Rattle.control.specs.Exchange.{pause_answer, begins_numbered}
use Rattle.plans.specs.Plans.{pause_by, plan_by, state_by, put_by}
use Rattle.plans.proofs.resume_of.Goals as goal

pub returns-in-AfterCountry : goal.returns-in-AfterCountry
unfolding pause_answer pause_by
returns-in-AfterCountry c = λ ns j l s. rw c.in-AfterCountry.is (c.begins.ensures j l s false Before.None)

pub returns-in-Settle : goal.returns-in-Settle
unfolding pause_answer pause_by
returns-in-Settle c = λ ns j l s. rw c.in-Settle.is (c.begins-in-Settle.ensures j l s false Before.None)

pub returns-in-AfterEventMessages : goal.returns-in-AfterEventMessages
unfolding pause_answer pause_by
returns-in-AfterEventMessages c = λ ns j l s. rw c.in-AfterEventMessages.is (c.begins-in-AfterEventMessages.ensures j l s false Before.None)

pub returns-in-AfterUp : goal.returns-in-AfterUp
unfolding pause_answer pause_by plan_by
returns-in-AfterUp c = λ ns j l s. rw (c.in-AfterUp.is, c.only.ensures)

pub returns-in-BeforeKey : goal.returns-in-BeforeKey
unfolding pause_answer pause_by begins_numbered state_by put_by
returns-in-BeforeKey c = λ ns j l s. rw c.in-BeforeKey.is (c.begin_at.ensures j l s false Before.None)

pub returns-in-BeforeSae : goal.returns-in-BeforeSae
unfolding pause_answer pause_by
returns-in-BeforeSae c = λ ns j l s. rw c.in-BeforeSae.is (c.begins-in-BeforeSae.ensures j l s false Before.None)
