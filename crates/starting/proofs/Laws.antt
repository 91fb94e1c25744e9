-- Each call's start stands for the front of its tree.
use mathlib.Core.Path.{◌≡◌, refl, ap, ◌∙◌}
use mathlib.Core.Bool.{Bool, true, false, ◌&&◌}
use mathlib.Core.List.{[]}
use mathlib.Core.Logic.{◌⊎◌, inl, inr}
use Prim.Native.Nat.{ℕ, ◌+◌, ◌≤◌, ◌<◌, ◌^◌}
use native.Mathlib.Omega.{arith}
use lib.Dec.{leb, eqb}
use lib.ListN.{length, take}
use borrow.Author.Tests.{le-leb, leb-true}
use Rattle.slices.specs.Pick.{pick}
use Rattle.wlan.specs.State.{with_link, set_failure}
use Rattle.wlan.specs.declared.DriverError.{DriverError}
use Rattle.wlan.specs.declared.ScanList.{ScanList}
use Rattle.wlan.specs.declared.State.{State}
use Rattle.wlan.specs.declared.WifiState.{WifiState}
use Rattle.definition.specs.Bus.{Bytes}
use Rattle.definition.specs.Event.{event_of}
use Rattle.definition.specs.Prog.{world, stop}
use Rattle.definition.specs.Calls.{Call, call, is_interface, is_command}
use Rattle.definition.proofs.Compose.{unroll}
use Rattle.requests.specs.declared.Request.{Request}
use Rattle.requests.specs.declared.IovarName.{IovarName}
use Rattle.control.specs.declared.Before.{Before}
use Rattle.control.specs.declared.Ending.{Ending}
use Rattle.control.specs.declared.Job.{Job}
use Rattle.control.specs.declared.Lens.{Lens}
use Rattle.control.specs.declared.Stage.{Stage}
use Rattle.control.specs.Begin.{scan_start, join_by}
use Rattle.control.specs.Steps.{refuses}
use Rattle.control.specs.Meaning.{lens_of, call_shown, call_tree, laid_all, laid_before, laid_request}
use Rattle.effects.specs.Args.{args_of}
use Rattle.session_bytes.specs.Session.{is_session, session_in, with_state}
use Rattle.places.specs.Places.{Holds}
use Rattle.jobs.specs.Jobs.{no_job, init_job, plain, cut}
use Rattle.jobs.proofs.Starts as law
use Rattle.starting.specs.declared.Start.{Start}
use Rattle.starting.specs.Starting as to
use Rattle.std.specs.Prelude.{None}

module _ (s : State) where
  abbrev Plain : Call → Start → Type 0
  Plain c x = to.Starts c [] [] s s x

  pub init : (c : ℕ) → Plain (Call.wifi_init c) (Start.Exchange (init_job c) Stage.Country)
  unfolding to.job_of to.step_of
  init c b l = law.init-is (event_of [] 0) (world s b l) c

  scan_by : (b : Bytes) (l : ScanList) (x : Bool) → s.scan.scan_in_progress ≡ x → unroll (call Call.wifi_scan (world s b l)) ≡ call_shown (plain no_job) (pick x (to.step_of Start.Done (lens_of (plain no_job)) s) (to.step_of (Start.Exchange no_job Stage.Escan) (lens_of (plain no_job)) s)) (event_of [] 0) (world s b l)
  unfolding scan_start to.step_of
  scan_by b l x e =
      law.scan-is (event_of [] 0) (world s b l)
      ∙ ap (λ (y : Bool). call_shown (plain no_job) (pick y (to.step_of Start.Done (lens_of (plain no_job)) s) (to.step_of (Start.Exchange no_job Stage.Escan) (lens_of (plain no_job)) s)) (event_of [] 0) (world s b l)) e

  pub scanning : s.scan.scan_in_progress ≡ true → Plain Call.wifi_scan Start.Done
  unfolding to.job_of
  scanning e b l = scan_by b l true e

  pub scan : s.scan.scan_in_progress ≡ false → Plain Call.wifi_scan (Start.Exchange no_job Stage.Escan)
  unfolding to.job_of
  scan e b l = scan_by b l false e

  pub leave : Plain Call.wifi_disconnect (Start.Exchange no_job Stage.Disassoc)
  unfolding to.job_of to.step_of
  leave b l = law.leave-is (event_of [] 0) (world s b l)

  pub abort : Plain Call.wifi_abort_connect (Start.Exchange no_job Stage.Disassoc)
  unfolding to.job_of to.step_of
  abort b l = law.abort-is (event_of [] 0) (world s b l)

  pub up : Plain Call.up (to.single Request.Up Ending.Done)
  unfolding to.job_of to.step_of
  up b l = law.up_is (event_of [] 0) (world s b l)

  pub mac : Plain Call.get_mac_addr (to.single Request.CurrentAddress Ending.Mac)
  unfolding to.job_of to.step_of
  mac b l = law.mac-is (event_of [] 0) (world s b l)

  -- refused whatever the byte arguments
  pub refused : (c : Call) (first second : Bytes) → ((b : Bytes) (l : ScanList) → call c (world s b l) ≡ stop DriverError.InvalidArg (world s b l)) → to.Starts c first second s s to.invalid_arg
  unfolding to.job_of to.step_of
  refused c first second h b l = law.refused-is (event_of [] 0) (world s b l) c first second (h b l)

  pub get : (cmd i : ℕ) → is_command cmd ≡ true → is_interface i ≡ true → Plain (Call.get_ioctl cmd i) (to.single (Request.GetWord cmd i) Ending.Word)
  unfolding to.job_of to.step_of
  get cmd i h k b l = law.get-is (event_of [] 0) (world s b l) cmd i h k

  pub get_bad : (cmd i : ℕ) → (is_command cmd && is_interface i) ≡ false → Plain (Call.get_ioctl cmd i) to.invalid_arg
  get_bad cmd i h = refused (Call.get_ioctl cmd i) [] [] (λ b l. law.get-bad (event_of [] 0) (world s b l) cmd i h)

  pub set : (cmd value i : ℕ) → is_command cmd ≡ true → is_interface i ≡ true → Plain (Call.set_ioctl cmd value i) (to.single (Request.SetWord cmd value i) Ending.Done)
  unfolding to.job_of to.step_of
  set cmd value i h k b l = law.set_is (event_of [] 0) (world s b l) cmd value i h k

  pub set_bad : (cmd value i : ℕ) → (is_command cmd && is_interface i) ≡ false → Plain (Call.set_ioctl cmd value i) to.invalid_arg
  set_bad cmd value i h = refused (Call.set_ioctl cmd value i) [] [] (λ b l. law.set-bad (event_of [] 0) (world s b l) cmd value i h)

  pub gpio : (pin level bit value : ℕ) → pin < 3 → bit ≡ 2 ^ pin → value ≡ pick (eqb level 0) 0 bit → Plain (Call.gpio_set pin level) (to.single (Request.IovarPair IovarName.Gpioout bit value) Ending.Done)
  unfolding to.job_of to.step_of
  gpio pin level bit value h hb hv b l = law.gpio-is (event_of [] 0) (world s b l) pin level bit value h hb (hv ∙ ap (λ (n : ℕ). pick (eqb level 0) 0 n) hb)

  pub gpio_bad : (pin level : ℕ) → 3 ≤ pin → Plain (Call.gpio_set pin level) to.invalid_arg
  gpio_bad pin level h = refused (Call.gpio_set pin level) [] [] (λ b l. law.gpio-bad (event_of [] 0) (world s b l) pin level h)

  -- ---- byte arguments

  module _ (i : ℕ) (name bytes : Bytes) where
    abbrev Variable : Start → Type 0
    Variable x = to.Starts (Call.write_iovar i name bytes) (take (cut 2020 (length name)) name) (take (cut 2020 (length bytes)) bytes) s s x

    pub variable : is_interface i ≡ true → length name + 1 + length bytes ≤ 2020 → Variable (to.single (Request.Variable i) Ending.Done)
    unfolding to.job_of to.step_of
    variable h k b l =
        rw (law.cut-whole 2020 name (omega arith), law.cut-whole 2020 bytes (omega arith)) (law.variable-is (event_of [] 0) (world s b l) i name bytes h k)

    pub variable_bad : (is_interface i && leb (length name + 1 + length bytes) 2020) ≡ false → Variable to.invalid_arg
    variable_bad h = refused (Call.write_iovar i name bytes) _ _ (λ b l. law.variable-bad (event_of [] 0) (world s b l) i name bytes h)

cut-same : (max n : ℕ) → n ≤ max → cut max n ≡ n
unfolding cut
cut-same max n h = rw (le-leb n max h)

cut_most : (max n : ℕ) → cut max n ≤ max
unfolding cut
cut_most max n = by (leb n max) refl
  where
    by : (x : Bool) → leb n max ≡ x → pick x n 0 ≤ max
    by true e = leb-true n max e
    by false e = omega arith

cut-none : (n : ℕ) → cut 0 n ≡ 0
cut-none n = omega (arith, cut_most 0 n)

-- a call that takes no byte arguments is handed none
pub unbytes : (a b : Bytes) (c : Call) (s t : State) (x : Start) → to.Starts c [] [] s t x → to.Starts c (take (cut 0 (length a)) a) (take (cut 0 (length b)) b) s t x
unbytes a b c s t x h buf l = rw (cut-none (length a), cut-none (length b)) (h buf l)

module _ (auth : ℕ) (ssid passphrase : Bytes) (s : State) where
  abbrev first : Bytes
  first = take (cut 32 (length ssid)) ssid

  abbrev second : Bytes
  second = take (cut 128 (length passphrase)) passphrase

  abbrev j : Job
  j = to.join_of auth ssid passphrase

  abbrev len : Lens
  len = lens_of (args_of j first second)

  abbrev Join : State → Start → Type 0
  Join t x = to.Starts (Call.wifi_connect auth ssid passphrase) first second s t x

  pub join_bad : 6 ≤ auth → Join s to.invalid_arg
  join_bad h = refused s (Call.wifi_connect auth ssid passphrase) first second (λ b l. law.join-bad (event_of [] 0) (world s b l) auth ssid passphrase h)

  join_in : auth < 6 → (w : WifiState) → s.link.state ≡ w → (b : Bytes) (l : ScanList) → unroll (call (Call.wifi_connect auth ssid passphrase) (world s b l)) ≡ call_shown (args_of j first second) (join_by j len s w) (event_of [] 0) (world s b l)
  join_in h w e b l =
      law.join_is (event_of [] 0) (world s b l) auth ssid passphrase (cut 32 (length ssid)) (cut 128 (length passphrase)) h
      (cut-same 32 (length ssid)) (cut_most 32 (length ssid)) (cut-same 128 (length passphrase)) (cut_most 128 (length passphrase))
      ∙ ap (λ (v : WifiState). call_shown (args_of j first second) (join_by j len s v) (event_of [] 0) (world s b l)) e

  pub join_down : auth < 6 → s.link.state ≡ WifiState.Down → Join (with_link s (set_failure s.link None)) (Start.Exchange j Stage.JoinBaWsize)
  unfolding to.job_of to.step_of join_by
  join_down h e = join_in h WifiState.Down e

  busy : (w : WifiState) (l : Lens) → (w ≡ WifiState.Connecting) ⊎ ((w ≡ WifiState.Connected) ⊎ (w ≡ WifiState.Disconnecting)) → join_by j l s w ≡ refuses s false Before.None DriverError.Busy
  unfolding join_by
  busy w l (inl e) = rw e
  busy w l (inr (inl e)) = rw e
  busy w l (inr (inr e)) = rw e

  pub join_busy : auth < 6 → (w : WifiState) → s.link.state ≡ w → (w ≡ WifiState.Connecting) ⊎ ((w ≡ WifiState.Connected) ⊎ (w ≡ WifiState.Disconnecting)) → Join s (Start.Refused DriverError.Busy)
  unfolding to.job_of to.step_of call_tree laid_before laid_request laid_all
  join_busy h w e d b l = rw (busy w len d) at (join_in h w e b l)

-- ---- the session's bytes

pub same : {b : Bytes} → is_session b ≡ true → Holds b (with_state b (session_in b).st)
same h = record { known = h; back = refl }

pub held : (b : Bytes) {d : Bytes} {t : State} → Holds d (with_state b t) → Holds d (with_state b (session_in d).st)
held b h = record { known = h.known; back = rw h.back }
