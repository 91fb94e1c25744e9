-- What each call hands to the run beside its byte arguments, and when a step is a call's first.
use Rattle.std.specs.Prelude.{ℕ, ◌+◌, ◌≡◌, Bool, false, [], leb}
use Rattle.slices.specs.Pick.{pick}
use Rattle.wlan.specs.declared.WifiAuth.{WifiAuth}
use Rattle.wlan.specs.declared.DriverError.{DriverError}
use Rattle.wlan.specs.declared.ScanList.{ScanList}
use Rattle.wlan.specs.declared.State.{State}
use Rattle.definition.specs.Bus.{Bytes}
use Rattle.definition.specs.Event.{event_of}
use Rattle.definition.specs.Prog.{world}
use Rattle.definition.specs.Calls.{Call, call}
use Rattle.definition.proofs.Compose.{unroll}
use Rattle.requests.specs.declared.Request.{Request}
use Rattle.control.specs.declared.Before.{Before}
use Rattle.control.specs.declared.Ending.{Ending}
use Rattle.control.specs.declared.Job.{Job}
use Rattle.control.specs.declared.Lens.{Lens}
use Rattle.control.specs.declared.CallStep.{CallStep}
use Rattle.control.specs.declared.Stage.{Stage}
use Rattle.control.specs.Steps.{refuses}
use Rattle.control.specs.Begin.{exchanges_step}
use Rattle.control.specs.Meaning.{Args, call_shown}
use Rattle.effects.specs.Args.{args_of}
use Rattle.jobs.specs.declared.ExchangeCall.{ExchangeCall}

abbrev job_of : ℕ → WifiAuth → Bool → Bool → ℕ → Request → Ending → Job
job_of c a p s n r e =
    record { country = c; auth = a; long_passphrase = p; long_ssid = s; size = n; request = r; ending = e }

abbrev pub no_job : Job
no_job = job_of 0 WifiAuth.Open false false 0 Request.Up Ending.Done

abbrev pub init_job : ℕ → Job
init_job country = job_of country WifiAuth.Open false false 0 Request.Up Ending.Done

abbrev pub join_job : WifiAuth → Bool → Bool → Job
join_job auth longPassphrase longSsid = job_of 0 auth longPassphrase longSsid 0 Request.Up Ending.Done

-- a frame's packet has 18 bytes before it
abbrev pub frame_job : ℕ → Job
frame_job n = job_of 0 WifiAuth.Open false false (18 + n) Request.Up Ending.Done

abbrev pub request_job : Request → Ending → Job
request_job r e = job_of 0 WifiAuth.Open false false 0 r e

-- without byte arguments
abbrev pub plain : Job → Args
plain j = args_of j [] []

abbrev pub no_lens : Lens
no_lens = record { first = 0; second = 0 }

-- a call's job and its first step
pub record Begun : Type 0 where
  pub job : Job
  pub step : CallStep

abbrev begun : Job → CallStep → Begun
begun j s = record { job = j; step = s }

abbrev pub invalid_arg : State → Begun
invalid_arg s = begun no_job (refuses s false Before.None DriverError.InvalidArg)

abbrev pub exchanging : Job → Lens → Stage → State → Begun
exchanging j l g s = begun j (exchanges_step j l g s)

abbrev pub single : Request → Ending → Lens → State → Begun
single r e l s = exchanging (request_job r e) l Stage.Single s

-- a length where it is at most max, else 0: a longer argument is refused without being used
unfoldable pub cut : ℕ → ℕ → ℕ
cut max n = pick (leb n max) n 0

-- the step is the front of the call's tree, in every world of that state
abbrev pub Begins : Call → Bytes → Bytes → State → Begun → Type 0
Begins c first second s b =
    (buf : Bytes) (l : ScanList) → unroll (call c (world s buf l)) ≡ call_shown (args_of b.job first second) b.step (event_of [] 0) (world s buf l)

-- the definition's call; a and b: its byte arguments
unfoldable pub call_of : ExchangeCall → Bytes → Bytes → Call
call_of (ExchangeCall.Init country) a b = Call.wifi_init country
call_of ExchangeCall.Scan a b = Call.wifi_scan
call_of (ExchangeCall.Connect auth) a b = Call.wifi_connect auth a b
call_of ExchangeCall.Disconnect a b = Call.wifi_disconnect
call_of ExchangeCall.AbortConnect a b = Call.wifi_abort_connect
call_of (ExchangeCall.GpioSet pin level) a b = Call.gpio_set pin level
call_of ExchangeCall.GetMacAddr a b = Call.get_mac_addr
call_of (ExchangeCall.GetIoctl cmd interface) a b = Call.get_ioctl cmd interface
call_of (ExchangeCall.SetIoctl cmd value interface) a b = Call.set_ioctl cmd value interface
call_of (ExchangeCall.WriteIovar interface) a b = Call.write_iovar interface a b
call_of ExchangeCall.Up a b = Call.up

-- how long the byte arguments may be that the run is handed
unfoldable pub longest : ExchangeCall → Lens
longest (ExchangeCall.Init _) = no_lens
longest ExchangeCall.Scan = no_lens
longest (ExchangeCall.Connect _) = record { first = 32; second = 128 }
longest ExchangeCall.Disconnect = no_lens
longest ExchangeCall.AbortConnect = no_lens
longest (ExchangeCall.GpioSet _ _) = no_lens
longest ExchangeCall.GetMacAddr = no_lens
longest (ExchangeCall.GetIoctl _ _) = no_lens
longest (ExchangeCall.SetIoctl _ _ _) = no_lens
longest (ExchangeCall.WriteIovar _) = record { first = 2020; second = 2020 }
longest ExchangeCall.Up = no_lens
