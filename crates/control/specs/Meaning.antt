-- The tree that each point of a call stands for, and what a step lays.
use Rattle.std.specs.Prelude.{ℕ, Bool, true, false, List, [], ◌∷◌, length}
use Rattle.slices.specs.Pick.{pick}
use Rattle.slices.specs.Over.{over}
use Rattle.slices.specs.Le.{le32_at}
use Rattle.wlan.specs.declared.WifiState.{WifiState}
use Rattle.wlan.specs.declared.DriverError.{DriverError}
use Rattle.wlan.specs.declared.Success.{Success}
use Rattle.wlan.specs.declared.ScanList.{ScanList}
use Rattle.wlan.specs.declared.AsyncEvent.{AsyncEvent}
use Rattle.definition.specs.Bus.{Bytes, Place, nowhere, Op, Ans}
use Rattle.definition.specs.Prog.{World, world, with_buf, Fin, fine, failed, Loop, Prog, ret, stop, M, bind, ◌>>=◌, ◌>>◌, attempt, turned, valued, operate, pause}
use Rattle.definition.specs.Packet.{data_part}
use Rattle.definition.specs.Scan.{cleared}
use Rattle.definition.specs.Request as def
use Rattle.definition.specs.Request.{ioctl_header, iovar, set_word}
use Rattle.definition.specs.Send.{clock}
use Rattle.definition.specs.Ioctl.{do_ioctl, exchange}
use Rattle.definition.specs.Poll.{Result, giving, poll_turn, timed_out, failure_report, polled}
use Rattle.definition.specs.Join.{is_dev_error, tried, security, key_laid, pmk_set, sae_set, down_on_error, linked, connecting}
use Rattle.definition.specs.Calls.{settled, scanning, disconnecting, mac_in}
use Rattle.handling.specs.Handle.{list_heard}
use Rattle.requests.specs.Request.{request_of}
use Rattle.device.specs.Meaning.{op_in, asking, told, landing, arrival_at, Kp}
use Rattle.send.specs.Meaning.{laid_header, past, Ks}
use Rattle.ioctl.specs.Meaning.{laid_copy, Ki}
use Rattle.control.specs.declared.Ending.{Ending}
use Rattle.control.specs.declared.Job.{Job}
use Rattle.control.specs.declared.Lens.{Lens}
use Rattle.control.specs.declared.Stage.{Stage}
use Rattle.control.specs.declared.PausePoint.{PausePoint}
use Rattle.control.specs.declared.CallPoint.{CallPoint}
use Rattle.control.specs.declared.Before.{Before}
use Rattle.control.specs.declared.RequestPut.{RequestPut}
use Rattle.control.specs.declared.Lay.{Lay}
use Rattle.control.specs.declared.CallNext.{CallNext}
use Rattle.control.specs.declared.CallStep.{CallStep}
use Rattle.control.specs.Steps.{call_op}
use Rattle.control.specs.Stages.{request_at, is_tried, is_last}
use Rattle.control.specs.Begin.{frame_out, call_answer}

-- a job with its two byte arguments
pub record Args : Type 0 where
  pub job : Job
  pub first : Bytes
  pub second : Bytes

abbrev pub lens_of : Args → Lens
lens_of a = record { first = length a.first; second = length a.second }

-- a stage's request, in the definition's terms
abbrev pub request_in : Args → Stage → def.Request
request_in a g = request_of (request_at a.job g) a.first a.second

abbrev pub len_at : Args → Stage → ℕ
len_at a g = length (request_in a g).payload

-- ---- what a step lays

unfoldable pub laid_before : Before → Bytes → Bytes
laid_before Before.None b = b
laid_before (Before.Copy c) b = laid_copy c b
laid_before (Before.Header h) b = laid_header h b

unfoldable pub laid_request : Args → RequestPut → Bytes → Bytes
laid_request a RequestPut.None b = b
laid_request a (RequestPut.Payload r) b = over b 28 (request_of r a.first a.second).payload
laid_request a (RequestPut.Whole r id) b = over (over b 28 (request_of r a.first a.second).payload) 12 (ioctl_header (request_of r a.first a.second) id)
laid_request a (RequestPut.Numbered r id) b = over b 12 (ioctl_header (request_of r a.first a.second) id)
laid_request a (RequestPut.Data i) b = over b 12 (data_part i a.first)

unfoldable pub laid_all : Args → Lay → Bytes → Bytes
laid_all a l b = laid_header l.header (laid_request a l.request (laid_before l.before b))

unfoldable pub list_at : Bool → Bool → AsyncEvent → ScanList → ScanList
list_at heard clear e l = pick clear (cleared (list_heard heard e l)) (list_heard heard e l)

-- what a call gives at its end; b: the work buffer
unfoldable pub success_of : Ending → Bytes → Success
success_of Ending.Done b = Success.Done
success_of Ending.Mac b = Success.Mac (mac_in b)
success_of Ending.Word b = Success.Word (le32_at b 28)
success_of (Ending.Polled p) b = Success.Polled p

-- ---- what is left of a call

abbrev pub done : M Result
done = giving Success.Done

-- init, from its end

abbrev pub after_up : M Result
after_up = pause 50000000 >> done

abbrev pub from_up : M Result
from_up = exchange def.wlc_up >> after_up

abbrev pub from_event_messages : M Result
from_event_messages = exchange def.event_messages >> (pause 50000000 >> from_up)

abbrev pub after_rx_factor : M Result
after_rx_factor = (clock >>= settled) >> from_event_messages

abbrev pub from_rx_factor : M Result
from_rx_factor = tried (iovar "ampdu_rx_factor" (0 ∷ [])) >> after_rx_factor

abbrev pub from_mpdu : M Result
from_mpdu = tried (iovar "ampdu_mpdu" (4 ∷ [])) >> from_rx_factor

abbrev pub from_ba_wsize : M Result
from_ba_wsize = tried (iovar "ampdu_ba_wsize" (8 ∷ [])) >> from_mpdu

abbrev pub from_apsta : M Result
from_apsta = tried (iovar "apsta" (1 ∷ [])) >> from_ba_wsize

abbrev pub from_txglom : M Result
from_txglom = tried (iovar "bus:txglom" (0 ∷ [])) >> from_apsta

abbrev pub from_ant_div : M Result
from_ant_div = exchange (set_word 64 0 0) >> from_txglom

-- join, from its end; that the SSID or the passphrase is too long was found before

abbrev pub ssid_tried : Args → M (Unit {0})
ssid_tried a w = pick a.job.long_ssid (stop DriverError.InvalidArg w) (exchange (def.join_ssid a.first) w)

abbrev pub after_wpa_auth : Args → M Result
after_wpa_auth a = (λ w. attempt (ssid_tried a (connecting a.job.auth w))) >>= down_on_error

abbrev pub from_wpa_auth : Args → M Result
from_wpa_auth a = exchange (set_word 165 (security a.job.auth).wpa_auth 0) >> after_wpa_auth a

abbrev pub from_mfp : Args → M Result
from_mfp a = exchange (iovar "mfp" ((security a.job.auth).mfp ∷ [])) >> from_wpa_auth a

abbrev pub from_auth : Args → M Result
from_auth a = exchange (set_word 22 (security a.job.auth).auth_type 0) >> from_mfp a

abbrev pub from_infra : Args → M Result
from_infra a = exchange (set_word 20 1 0) >> from_auth a

abbrev pub after_key : Args → M Result
after_key a = sae_set (security a.job.auth).sae a.second >> from_infra a

abbrev pub after_tmo : Args → M Result
after_tmo a = pmk_set (security a.job.auth).pmk a.second >> after_key a

abbrev pub from_tmo : Args → M Result
from_tmo a = tried (iovar "bsscfg:sup_wpa_tmo" (0 ∷ 5000 ∷ [])) >> after_tmo a

abbrev pub from_eapver : Args → M Result
from_eapver a = exchange (iovar "bsscfg:sup_wpa2_eapver" (0 ∷ 0xffffffff ∷ [])) >> from_tmo a

abbrev pub from_sup_wpa : Args → M Result
from_sup_wpa a = exchange (iovar "bsscfg:sup_wpa" (0 ∷ (security a.job.auth).supplicant ∷ [])) >> from_eapver a

abbrev pub from_wsec : Args → M Result
from_wsec a = exchange (set_word 134 (security a.job.auth).wsec 0) >> from_sup_wpa a

abbrev pub length_test : Args → M (Unit {0})
length_test a w = pick a.job.long_passphrase (stop DriverError.InvalidArg w) (ret tt w)

abbrev pub after_join_ba_wsize : Args → M Result
after_join_ba_wsize a = length_test a >> from_wsec a

-- what follows a stage's exchange that is done
unfoldable pub rest : Args → Stage → M Result
rest a Stage.Country = pause 50000000 >> from_ant_div
rest a Stage.AntDiv = from_txglom
rest a Stage.Txglom = from_apsta
rest a Stage.Apsta = from_ba_wsize
rest a Stage.BaWsize = from_mpdu
rest a Stage.Mpdu = from_rx_factor
rest a Stage.RxFactor = after_rx_factor
rest a Stage.EventMessages = pause 50000000 >> from_up
rest a Stage.InitUp = after_up
rest a Stage.JoinBaWsize = after_join_ba_wsize a
rest a Stage.Wsec = from_sup_wpa a
rest a Stage.SupWpa = from_eapver a
rest a Stage.Eapver = from_tmo a
rest a Stage.SupWpaTmo = after_tmo a
rest a Stage.Key = after_key a
rest a Stage.Sae = from_infra a
rest a Stage.Infra = from_auth a
rest a Stage.Auth = from_mfp a
rest a Stage.Mfp = from_wpa_auth a
rest a Stage.WpaAuth = after_wpa_auth a
rest a Stage.Ssid = done
rest a Stage.Escan = λ w. done (scanning w)
rest a Stage.Disassoc = operate Op.read_tick >>= λ t w. done (disconnecting t w)
rest a Stage.Single = λ w. giving (success_of a.job.ending w.buf) w

-- one that was refused
unfoldable pub refused_at : Args → Stage → DriverError → M Result
refused_at a g e w =
    pick (is_dev_error e) (pick (is_tried g) (rest a g w) (pick (is_last g) (stop e (linked WifiState.Down w)) (stop e w))) (stop e w)

unfoldable pub after_stage : Args → Stage → Fin (Unit {0}) → M Result
after_stage a g (fine u) w = rest a g w
after_stage a g (failed e) w = refused_at a g e w

-- ---- the points

unfoldable pub Kpause : Args → PausePoint → M Result
Kpause a PausePoint.AfterCountry = from_ant_div
Kpause a (PausePoint.Settle ns) = from_event_messages
Kpause a PausePoint.AfterEventMessages = from_up
Kpause a PausePoint.AfterUp = done
Kpause a PausePoint.BeforeKey = do_ioctl (def.set_key a.second) >> after_key a
Kpause a PausePoint.BeforeSae = (key_laid (def.sae_password a.second) >> do_ioctl (def.sae_password a.second)) >> from_infra a

-- the tree that is left at a point, by the answer to its operation
unfoldable pub Kc : Args → CallPoint → Ans → M Result
Kc a (CallPoint.Exchange g q) x w = bind (attempt (Ki (len_at a g) (request_in a g).secret q x w)) (after_stage a g)
Kc a (CallPoint.Pause q) x w = Kpause a q w
Kc a CallPoint.Clock x w = bind (bind (valued x w) settled) (λ u. from_event_messages)
Kc a CallPoint.Tick x w = bind (valued x w) (λ t v. done (disconnecting t v))
Kc a (CallPoint.Poll q) x w = bind (attempt (bind (Kp q x w) poll_turn)) (turned Loop.poll_loop (past polled))
Kc a (CallPoint.PollTick t) x w =
    bind {A = Unit {0}} (bind (valued x w) (λ n v. ret tt (timed_out t n v))) (λ u v. failure_report v.st.link.state v.st.link.connect_failure v)
Kc a (CallPoint.Send q) x w = bind (Ks (frame_out a.job) nowhere q x w) (λ u. done)

-- where a write's passphrase lies
unfoldable pub secret_at : Args → CallPoint → Place
secret_at a (CallPoint.Exchange g q) = (request_in a g).secret
secret_at a (CallPoint.Pause q) = nowhere
secret_at a CallPoint.Clock = nowhere
secret_at a CallPoint.Tick = nowhere
secret_at a (CallPoint.Poll q) = nowhere
secret_at a (CallPoint.PollTick t) = nowhere
secret_at a (CallPoint.Send q) = nowhere

-- ---- a step, as a tree; the world has the step's state, bytes and list

unfoldable pub call_tree : Args → CallNext → World → Prog Result
call_tree a (CallNext.Ask p) w = asking (op_in (call_op p) (secret_at a p) w.buf) (λ x. Kc a p x w)
call_tree a (CallNext.Ended e) w = giving (success_of e w.buf) w
call_tree a (CallNext.Refused e) w = stop e w

abbrev pub step_world : Args → CallStep → AsyncEvent → World → World
step_world a s e w = world s.st (laid_all a s.lay w.buf) (list_at s.heard s.clear e w.list)

abbrev pub call_shown : Args → CallStep → AsyncEvent → World → Prog Result
call_shown a s e w = call_tree a s.next (step_world a s e w)

abbrev pub event_at : CallPoint → Ans → World → AsyncEvent
event_at p x w = (arrival_at (call_op p) (landing (call_op p) x w.buf) w.st.sdpcm).event

abbrev pub call_step_at : Args → CallPoint → Ans → World → CallStep
call_step_at a p x w = call_answer a.job (lens_of a) w.st p (told x) (arrival_at (call_op p) (landing (call_op p) x w.buf) w.st.sdpcm)
