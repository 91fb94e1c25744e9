-- Each call's first step is the front of its tree.
use mathlib.Core.Path.{◌≡◌, refl}
use mathlib.Core.Bool.{true, false, ◌&&◌}
use mathlib.Core.List.{[]}
use Prim.Native.Nat.{ℕ, ◌+◌, ◌-◌, ◌≤◌, ◌<◌, ◌^◌}
use native.Mathlib.Omega.{arith}
use lib.Dec.{ltb, leb, eqb}
use lib.ListN.{length, take, length-take}
use lib.Seq.{take_all}
use borrow.Author.Tests.{ltb-false, lt-ltb, le-ltb, le-leb}
use Rattle.slices.specs.Pick.{pick}
use Rattle.wlan.specs.declared.WifiAuth.{WifiAuth}
use Rattle.wlan.specs.declared.DriverError.{DriverError}
use Rattle.wlan.specs.declared.AsyncEvent.{AsyncEvent}
use Rattle.definition.specs.Bus.{Bytes}
use Rattle.definition.specs.Prog.{World, stop}
use Rattle.definition.specs.Join.{security, too_long, auth_of, join}
use Rattle.definition.specs.Calls.{Call, call, send, gpio, mac, get, setting, variable_set, is_interface, is_command}
use Rattle.definition.proofs.Compose.{unroll}
use Rattle.requests.specs.declared.Request.{Request}
use Rattle.requests.specs.declared.IovarName.{IovarName}
use Rattle.control.specs.declared.Before.{Before}
use Rattle.control.specs.declared.Ending.{Ending}
use Rattle.control.specs.declared.Job.{Job}
use Rattle.control.specs.declared.Stage.{Stage}
use Rattle.control.specs.Steps.{refuses}
use Rattle.control.specs.Poll.{polling_step}
use Rattle.control.specs.Begin.{exchanges_step, scan_start, join_start, frame_start}
use Rattle.control.specs.Meaning.{lens_of, laid_before, laid_request, laid_all, list_at, success_of, call_tree, call_shown}
use Rattle.control.proofs.StageBridge.{Modest}
use Rattle.control.proofs.Start as start
use Rattle.handling.specs.Handle.{list_heard}
use Rattle.send.specs.Meaning.{laid_header}
use Rattle.effects.specs.Args.{args_of}
use Rattle.jobs.specs.Jobs.{no_job, init_job, join_job, frame_job, request_job, plain, single, cut}

modest : (j : Job) → Modest (plain j)
modest j = omega arith

-- a passphrase that is used has 128 bytes at most
short : (x : WifiAuth) (n : ℕ) → (security x).supplicant ≡ 1 → too_long x n ≡ false → n ≤ 128
unfolding too_long
short WifiAuth.Open n s t = absurd (omega arith)
short WifiAuth.WpaTkipPsk n s t = omega (arith, ltb-false 64 n t)
short WifiAuth.Wpa2AesPsk n s t = omega (arith, ltb-false 64 n t)
short WifiAuth.Wpa2MixedPsk n s t = omega (arith, ltb-false 64 n t)
short WifiAuth.Wpa3SaeAesPsk n s t = omega (arith, ltb-false 128 n t)
short WifiAuth.Wpa3Wpa2AesPsk n s t = omega (arith, ltb-false 64 n t)

module _ (e : AsyncEvent) (w : World) where
  pub init-is : (c : ℕ) → unroll (call (Call.wifi_init c) w) ≡ call_shown (plain (init_job c)) (exchanges_step (init_job c) (lens_of (plain (init_job c))) Stage.Country w.st) e w
  unfolding call
  init-is c = start.init-is (plain (init_job c)) (modest (init_job c)) e w

  pub scan-is : unroll (call Call.wifi_scan w) ≡ call_shown (plain no_job) (scan_start no_job (lens_of (plain no_job)) w.st) e w
  unfolding call
  scan-is = start.scan-is (plain no_job) (modest no_job) e w

  pub leave-is : unroll (call Call.wifi_disconnect w) ≡ call_shown (plain no_job) (exchanges_step no_job (lens_of (plain no_job)) Stage.Disassoc w.st) e w
  unfolding call
  leave-is = start.leave-is (plain no_job) (modest no_job) e w

  pub abort-is : unroll (call Call.wifi_abort_connect w) ≡ call_shown (plain no_job) (exchanges_step no_job (lens_of (plain no_job)) Stage.Disassoc w.st) e w
  unfolding call
  abort-is = start.leave-is (plain no_job) (modest no_job) e w

  pub poll-is : unroll (call Call.wifi_poll w) ≡ call_shown (plain no_job) (polling_step w.st false) e w
  unfolding call
  poll-is = start.poll-start-is (plain no_job) (modest no_job) e w

  -- refused before any operation, whatever the byte arguments
  pub refused-is : (c : Call) (first second : Bytes) → call c w ≡ stop DriverError.InvalidArg w → unroll (call c w) ≡ call_shown (args_of no_job first second) (refuses w.st false Before.None DriverError.InvalidArg) e w
  unfolding unroll call_tree laid_before laid_request laid_header laid_all list_heard list_at
  refused-is c first second h = rw h

  -- ---- one exchange

  abbrev Single : Call → Request → Ending → Type 0
  Single c r x = unroll (call c w) ≡ call_shown (plain (request_job r x)) (single r x (lens_of (plain (request_job r x))) w.st).step e w

  pub up_is : Single Call.up Request.Up Ending.Done
  unfolding call success_of
  up_is = start.single-is (plain (request_job Request.Up Ending.Done)) (modest (request_job Request.Up Ending.Done)) e w

  pub mac-is : Single Call.get_mac_addr Request.CurrentAddress Ending.Mac
  unfolding call mac success_of
  mac-is = start.single-is (plain (request_job Request.CurrentAddress Ending.Mac)) (modest (request_job Request.CurrentAddress Ending.Mac)) e w

  pub get-is : (cmd i : ℕ) → is_command cmd ≡ true → is_interface i ≡ true → Single (Call.get_ioctl cmd i) (Request.GetWord cmd i) Ending.Word
  unfolding call get success_of
  get-is cmd i h k = rw (h, k) (start.single-is (plain (request_job (Request.GetWord cmd i) Ending.Word)) (modest (request_job (Request.GetWord cmd i) Ending.Word)) e w)

  pub set_is : (cmd value i : ℕ) → is_command cmd ≡ true → is_interface i ≡ true → Single (Call.set_ioctl cmd value i) (Request.SetWord cmd value i) Ending.Done
  unfolding call setting success_of
  set_is cmd value i h k = rw (h, k) (start.single-is (plain (request_job (Request.SetWord cmd value i) Ending.Done)) (modest (request_job (Request.SetWord cmd value i) Ending.Done)) e w)

  pub gpio-is : (pin level bit value : ℕ) → pin < 3 → bit ≡ 2 ^ pin → value ≡ pick (eqb level 0) 0 (2 ^ pin) → Single (Call.gpio_set pin level) (Request.IovarPair IovarName.Gpioout bit value) Ending.Done
  unfolding call gpio success_of
  gpio-is pin level bit value h hb hv =
      let r : Request = Request.IovarPair IovarName.Gpioout bit value in
      rw (lt-ltb pin 3 h, ← hv, ← hb) (start.single-is (plain (request_job r Ending.Done)) (modest (request_job r Ending.Done)) e w)

  pub variable-is : (i : ℕ) (name bytes : Bytes) → is_interface i ≡ true → length name + 1 + length bytes ≤ 2020 → unroll (call (Call.write_iovar i name bytes) w) ≡ call_shown (args_of (request_job (Request.Variable i) Ending.Done) name bytes) (single (Request.Variable i) Ending.Done (lens_of (args_of (request_job (Request.Variable i) Ending.Done) name bytes)) w.st).step e w
  unfolding call variable_set success_of
  variable-is i name bytes h k =
      rw (h, le-leb (length name + 1 + length bytes) 2020 k) (start.single-is (args_of (request_job (Request.Variable i) Ending.Done) name bytes) (omega arith) e w)

  -- ---- a frame

  pub send-is : (i : ℕ) (frame : Bytes) → is_interface i ≡ true → length frame ≤ 2030 → unroll (call (Call.send_data i frame) w) ≡ call_shown (args_of (frame_job (length frame)) frame []) (frame_start (frame_job (length frame)) i w.st) e w
  unfolding call send
  send-is i frame h k =
      rw (h, le-leb (length frame) 2030 k) (start.send-start-is (args_of (frame_job (length frame)) frame []) (omega arith) i e w refl)

  -- ---- join

  module _ (auth : ℕ) (ssid passphrase : Bytes) where
    abbrev j : Job
    j = join_job (auth_of auth) (too_long (auth_of auth) (length passphrase)) (ltb 32 (length ssid))

    -- the byte arguments are cut where join does not come to use them
    pub join_is : (n m : ℕ) → auth < 6 → (length ssid ≤ 32 → n ≡ length ssid) → n ≤ 32 → (length passphrase ≤ 128 → m ≡ length passphrase) → m ≤ 128 → unroll (call (Call.wifi_connect auth ssid passphrase) w) ≡ call_shown (args_of j (take n ssid) (take m passphrase)) (join_start j (lens_of (args_of j (take n ssid) (take m passphrase))) w.st) e w
    unfolding call join
    join_is n m h hn kn hm km =
        let a = args_of j (take n ssid) (take m passphrase) in
        rw (lt-ltb auth 6 h)
        (start.join_is a (omega (arith, length-take n ssid, length-take m passphrase)) ssid passphrase
        (record {
          long-passphrase = refl;
          long-ssid = refl;
          key = λ s t. take_all m passphrase (omega (arith, hm (short (auth_of auth) (length passphrase) s t)));
          network = λ t. take_all n ssid (omega (arith, hn (ltb-false 32 (length ssid) t)));
        })
        e w)

  -- ---- arguments that are refused

  abbrev Bad : Call → Type 0
  Bad c = call c w ≡ stop DriverError.InvalidArg w

  pub get-bad : (cmd i : ℕ) → (is_command cmd && is_interface i) ≡ false → Bad (Call.get_ioctl cmd i)
  unfolding call get
  get-bad cmd i h = rw h

  pub set-bad : (cmd value i : ℕ) → (is_command cmd && is_interface i) ≡ false → Bad (Call.set_ioctl cmd value i)
  unfolding call setting
  set-bad cmd value i h = rw h

  pub gpio-bad : (pin level : ℕ) → 3 ≤ pin → Bad (Call.gpio_set pin level)
  unfolding call gpio
  gpio-bad pin level h = rw (le-ltb pin 3 h)

  pub variable-bad : (i : ℕ) (name bytes : Bytes) → (is_interface i && leb (length name + 1 + length bytes) 2020) ≡ false → Bad (Call.write_iovar i name bytes)
  unfolding call variable_set
  variable-bad i name bytes h = rw h

  pub send-bad : (i : ℕ) (frame : Bytes) → (is_interface i && leb (length frame) 2030) ≡ false → Bad (Call.send_data i frame)
  unfolding call send
  send-bad i frame h = rw h

  pub join-bad : (auth : ℕ) (ssid passphrase : Bytes) → 6 ≤ auth → Bad (Call.wifi_connect auth ssid passphrase)
  unfolding call join
  join-bad auth ssid passphrase h = rw (le-ltb auth 6 h)

-- an argument that is not too long is handed on whole
pub cut-whole : (max : ℕ) (s : Bytes) → length s ≤ max → take (cut max (length s)) s ≡ s
unfolding cut
cut-whole max s h = rw (le-leb (length s) max h) (take_all (length s) s (omega arith))
