-- A call's beginning is its tree, and what its run left is its end.
use Prim.Native.Nat.{ℕ, ◌<◌, ◌≤◌}
use mathlib.Core.Path.{◌≡◌, refl, ap, ◌∙◌}
use mathlib.Core.Bool.{true, false}
use mathlib.Core.List.{List, []}
use native.Mathlib.Omega.{arith}
use lib.ListN.{length, drop}
use borrow.Author.Tests.{lt-leb}
use Rattle.wlan.specs.declared.DriverError.{DriverError}
use Rattle.wlan.specs.declared.Refusal.{Refusal}
use Rattle.wlan.specs.declared.State.{State}
use Rattle.wlan.specs.declared.Success.{Success}
use Rattle.wlan.specs.Outcome.{error_value}
use Rattle.definition.specs.Bus.{Bytes}
use Rattle.definition.specs.Event.{event_of}
use Rattle.definition.specs.Prog.{World, world, stop}
use Rattle.definition.specs.Calls.{Call, call, send, is_interface}
use Rattle.definition.specs.Run.{End, called}
use Rattle.session_bytes.specs.declared.session.Session.{Session}
use Rattle.session_bytes.specs.Session.{session_in, is_session, with_state}
use Rattle.send.specs.Meaning.{laid_header}
use Rattle.device.specs.Poll.{poll_start}
use Rattle.handling.specs.Handle.{list_heard}
use Rattle.control.specs.declared.CallNext.{CallNext}
use Rattle.control.specs.declared.CallPoint.{CallPoint}
use Rattle.control.specs.Poll.{polling_step}
use Rattle.control.specs.declared.Before.{Before}
use Rattle.control.specs.Begin.{frame_start}
use Rattle.control.specs.declared.Ending.{Ending}
use Rattle.control.specs.Steps.{refuses, ends}
use Rattle.control.specs.Meaning.{Args, lens_of, call_tree, call_shown, laid_all, laid_before, laid_request, list_at, success_of}
use Rattle.jobs.specs.Jobs.{no_job, frame_job}
use Rattle.jobs.proofs.Starts.{poll-is, send-is, refused-is}
use Rattle.send_call.specs.SendCall.{args_in, start_in}
use Rattle.undo.specs.Undo.{Kept}
use Rattle.turning.proofs.Laws.{stopped, returned}
use Rattle.polls.proofs.Laws.{front_kept}
use Rattle.starting.specs.declared.Start.{Start}
use Rattle.starting.specs.Starting.{job_of, step_of, Starts}
use Rattle.places.specs.Places.{Holds}
use Rattle.effects.specs.Args.{args_of}
use Rattle.going.specs.Onward.{go}
use Rattle.poll_call.specs.PollCall.{no_args}
use Rattle.run_end.specs.declared.RunEnd.{RunEnd}
use Rattle.run_end.specs.RunEnd as ending
use Rattle.turning.specs.Turning as turning
use Rattle.runs.specs.Runs as to
use Rattle.runs.proofs.Called.{called-from}
use Rattle.std.specs.Prelude.{Ok, Err}

-- ---- a run's end

pub left : {e : End} {w : World} {log d d' : List ℕ} {g g' : Bytes} {r : RunEnd} → turning.Ends w e r log d' g' → (is_session d ≡ true) × (turning.world_in d g ≡ world e.st e.buf e.list) → to.Left e log d g r
left h s = record { tells = h.tells; len = h.len; log = h.log; output = h.output; held = s.0; stands = s.1 }

-- ---- poll

pub poll-called : (s rec log : List ℕ) (b : Bytes) → length b ≡ 2048
    → go (turning.world_in s b) (drop 0 rec) log 0 (call_tree no_args (CallNext.Ask (CallPoint.Poll (poll_start (session_in s).st.sdpcm))) (turning.world_in s b)) ≡ called Call.wifi_poll (turning.world_in s b) rec log []
unfolding polling_step laid_all laid_before laid_request laid_header list_at list_heard
poll-called s rec log b h =
    called-from (session_in s).st b (session_in s).list rec log Call.wifi_poll (record { job = no_job; step = polling_step (session_in s).st false }) [] [] h (λ c l. poll-is (event_of [] 0) (world (session_in s).st c l))

-- ---- send

pub send-called : (i : ℕ) (frame s rec log : List ℕ) (b : Bytes) → is_interface i ≡ true → length frame ≤ 2030 → length b ≡ 2048
    → go (turning.world_in s b) (drop 0 rec) log 0 (call_shown (args_in frame) (start_in i frame s) (event_of [] 0) (turning.world_in s b)) ≡ called (Call.send_data i frame) (turning.world_in s b) rec log []
send-called i frame s rec log b hi hl h =
    called-from (session_in s).st b (session_in s).list rec log (Call.send_data i frame) (record { job = frame_job (length frame); step = frame_start (frame_job (length frame)) i (session_in s).st }) frame [] h (λ c l. send-is (event_of [] 0) (world (session_in s).st c l) i frame hi hl)

-- ---- arguments that are refused

pub refused-runs : (c : Call) (s rec log u : List ℕ) (b : Bytes) (r : RunEnd) → is_session s ≡ true → Kept u → length b ≡ 2048 → ((w : World) → call c w ≡ stop DriverError.InvalidArg w) → r ≡ ending.end_by (Err (Refusal.Driver DriverError.InvalidArg)) 0 → to.Runs c rec log log u u s s b b r
unfolding call_tree laid_before laid_request laid_header laid_all list_heard list_at
refused-runs c s rec log u b r k kept h d er =
    let w = turning.world_in s b in
    let e : go w (drop 0 rec) log 0 (stop DriverError.InvalidArg w) ≡ called c w rec log [] = called-from (session_in s).st b (session_in s).list rec log c (record { job = no_job; step = refuses (session_in s).st false Before.None DriverError.InvalidArg }) [] [] h (λ x l. refused-is (event_of [] 0) (world (session_in s).st x l) c [] [] (d (world (session_in s).st x l))) in
    record { ends = rw (er, ← e) (stopped w DriverError.InvalidArg (drop 0 rec) log s b 0 (omega arith)); held = k; kept = record { kept = kept; session = refl; buf = refl } }

pub bad-interface : (i : ℕ) (frame : Bytes) (w : World) → is_interface i ≡ false → call (Call.send_data i frame) w ≡ stop DriverError.InvalidArg w
unfolding call send
bad-interface i frame w h = rw h refl

pub long-frame : (i : ℕ) (frame : Bytes) (w : World) → is_interface i ≡ true → 2030 < length frame → call (Call.send_data i frame) w ≡ stop DriverError.InvalidArg w
unfolding call send
long-frame i frame w h k = rw (h, lt-leb (length frame) 2030 k) refl

-- ---- exchanges

-- b and d: the session's bytes before the call, and after what its start changed
pub start-called : (c : Call) (first second : Bytes) (x : Start) (b d rec log : List ℕ) (buf : Bytes) → Starts c first second (session_in b).st (session_in d).st x → Holds d (with_state b (session_in d).st) → length buf ≡ 2048
    → go (turning.world_in b buf) (drop 0 rec) log 0 (call_shown (args_of (job_of x) first second) (step_of x (lens_of (args_of (job_of x) first second)) (session_in d).st) (event_of [] 0) (turning.world_in d buf)) ≡ called c (turning.world_in b buf) rec log []
start-called c first second x b d rec log buf h s k =
    let l : (session_in d).list ≡ (session_in b).list = ap (λ (v : Session). v.list) s.back in
    rw l (called-from (session_in b).st buf (session_in b).list rec log c (record { job = job_of x; step = step_of x (lens_of (args_of (job_of x) first second)) (session_in d).st }) first second k h)

pub start-runs : (c : Call) (first second : Bytes) (x : Start) (b d f rec log log' u v : List ℕ) (buf g : Bytes) (r : RunEnd) → is_session b ≡ true → Kept u → length buf ≡ 2048 → Starts c first second (session_in b).st (session_in d).st x → Holds d (with_state b (session_in d).st)
    → ((e : World) → turning.Ends e (go e (drop 0 rec) log 0 (call_shown (args_of (job_of x) first second) (step_of x (lens_of (args_of (job_of x) first second)) (session_in d).st) (event_of [] 0) (turning.world_in d buf))) r log' f g)
    → is_session f ≡ true → turning.KeptAll u v d f buf g → to.Runs c rec log log' u v b f buf g r
start-runs c first second x b d f rec log log' u v buf g r hb hu k h s e hf kept =
    record {
      ends = rw (start-called c first second x b d rec log buf h s k) at (e (turning.world_in b buf));
      held = hf;
      kept = record { kept = kept.kept; session = kept.session ∙ front_kept u b (session_in d).st hu hb s; buf = kept.buf };
    }

pub same-holds : (b : List ℕ) → is_session b ≡ true → Holds b (with_state b (session_in b).st)
same-holds b h = record { known = h; back = refl }

module _ (a : Args) (e : World) (s : State) (ws log b : List ℕ) (buf : Bytes) where
  pub done-ends : (r : RunEnd) → s ≡ (session_in b).st → r ≡ ending.end_by (Ok Success.Done) 0 → turning.Ends e (go e ws log 0 (call_shown a (ends s false Before.None Ending.Done) (event_of [] 0) (turning.world_in b buf))) r log b buf
  unfolding call_tree laid_before laid_request laid_header laid_all list_heard list_at success_of
  done-ends r hs er = rw (hs, er) (returned e _ ws log b buf 0 refl tt)

  pub refused-ends : (r : RunEnd) (x : DriverError) → s ≡ (session_in b).st → error_value x < 256 → r ≡ ending.end_by (Err (Refusal.Driver x)) 0 → turning.Ends e (go e ws log 0 (call_shown a (refuses s false Before.None x) (event_of [] 0) (turning.world_in b buf))) r log b buf
  unfolding call_tree laid_before laid_request laid_header laid_all list_heard list_at
  refused-ends r x hs f er = rw (hs, er) (stopped e x ws log b buf 0 f)
