-- What a start stands for: the call's first step.
use Rattle.std.specs.Prelude.{false, ltb, length, take, ℕ}
use Rattle.wlan.specs.declared.DriverError.{DriverError}
use Rattle.wlan.specs.declared.State.{State}
use Rattle.definition.specs.Bus.{Bytes}
use Rattle.definition.specs.Join.{too_long, auth_of}
use Rattle.definition.specs.Calls.{Call}
use Rattle.requests.specs.declared.Request.{Request}
use Rattle.control.specs.declared.Before.{Before}
use Rattle.control.specs.declared.Ending.{Ending}
use Rattle.control.specs.declared.Job.{Job}
use Rattle.control.specs.declared.Lens.{Lens}
use Rattle.control.specs.declared.CallStep.{CallStep}
use Rattle.control.specs.declared.Stage.{Stage}
use Rattle.control.specs.Steps.{ends, refuses}
use Rattle.control.specs.Begin.{exchanges_step}
use Rattle.control.specs.Meaning.{lens_of}
use Rattle.effects.specs.Args.{args_of}
use Rattle.jobs.specs.declared.ExchangeCall.{ExchangeCall}
use Rattle.jobs.specs.Jobs.{no_job, join_job, request_job, Begins, cut, call_of, longest}
use Rattle.starting.specs.declared.Start.{Start}

-- what the call's run is handed; a call that is over at once uses nothing of it
unfoldable pub job_of : Start → Job
job_of (Start.Exchange j _) = j
job_of Start.Done = no_job
job_of (Start.Refused _) = no_job

unfoldable pub step_of : Start → Lens → State → CallStep
step_of (Start.Exchange j g) l s = exchanges_step j l g s
step_of Start.Done l s = ends s false Before.None Ending.Done
step_of (Start.Refused e) l s = refuses s false Before.None e

-- the call begins so; s: the state before, t: after what the start itself changed
abbrev pub Starts : Call → Bytes → Bytes → State → State → Start → Type 0
Starts c first second s t x =
    Begins c first second s (record { job = job_of x; step = step_of x (lens_of (args_of (job_of x) first second)) t })

-- the same of a call with its byte arguments a and b; the run is handed them cut
abbrev pub CallStarts : ExchangeCall → Bytes → Bytes → State → State → Start → Type 0
CallStarts c a b s t x =
    Starts (call_of c a b) (take (cut (longest c).first (length a)) a) (take (cut (longest c).second (length b)) b) s t x

abbrev pub single : Request → Ending → Start
single q e = Start.Exchange (request_job q e) Stage.Single

abbrev pub invalid_arg : Start
invalid_arg = Start.Refused DriverError.InvalidArg

-- a join's job, with its byte arguments uncut
abbrev pub join_of : ℕ → Bytes → Bytes → Job
join_of auth ssid passphrase = join_job (auth_of auth) (too_long (auth_of auth) (length passphrase)) (ltb 32 (length ssid))
