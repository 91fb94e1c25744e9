-- The calls: only join's key requests have a place.
use mathlib.Core.Bool.{Bool, true, false, ◌&&◌}
use Prim.Native.Nat.{ℕ, ◌+◌, ◌%◌}
use lib.Dec.{ltb, leb}
use lib.ListN.{length}
use Rattle.wlan.specs.declared.WifiAuth.{WifiAuth}
use Rattle.wlan.specs.declared.WifiState.{WifiState}
use Rattle.definition.specs.Bus.{Bytes, Place, nowhere, Op}
use Rattle.definition.specs.Prog.{Fin, fine, failed, M, ◌>>◌, pause}
use Rattle.definition.specs.Request.{Request, country, event_messages, escan, current_address, wlc_up, join_ssid, set_key, sae_password}
use Rattle.definition.specs.Send.{elapsed}
use Rattle.definition.specs.Ioctl.{exchange}
use Rattle.definition.specs.Poll.{Result}
use Rattle.definition.specs.Join.{is_dev_error, too_long, ignoring, tried, key_laid, pmk_set, sae_set, ssid_sent, down_on_error, length_tested, joined, if_down, join}
use Rattle.definition.specs.Calls.{Call, is_interface, is_command, settled, init_sta, scan, disconnect, send, taken, gpio, mac, get, setting, variable_set, call}
use Rattle.secrecy.proofs.Places.Tree.{w-ret, w-stop, w-note, Does, w-bind, w-attempt, w-pick, w-operate, w-pause}
use Rattle.secrecy.proofs.Places.Exchange.{send_common-w, do_ioctl-w, exchange-w}
use Rattle.secrecy.proofs.Places.Poll.{poll-w}
use Rattle.std.specs.Prelude.{Option, Some, None}
use Rattle.wlan.specs.declared.PendingBuf.{PendingBuf}

module _ (Q : Place → Type 0) where
  -- ---- join

  ignoring-w : (r : Fin (Unit {0})) → Does Q (ignoring r)
  unfolding ignoring
  ignoring-w (fine u) w = w-ret
  ignoring-w (failed e) w = w-pick Q (is_dev_error e) w-ret w-stop

  tried-w : (r : Request) → Q r.secret → Does Q (tried r)
  unfolding tried
  tried-w r h w = w-bind Q _ (w-attempt Q (exchange-w Q r h w)) ignoring-w

  key_laid-w : (r : Request) → Does Q (key_laid r)
  unfolding key_laid
  key_laid-w r w = w-note w-ret

  pmk_set-w : (b : Bool) (p : Bytes) → Q (set_key p).secret → Does Q (pmk_set b p)
  unfolding pmk_set
  pmk_set-w true p h w = w-bind Q _ (key_laid-w _ w) (λ u v. w-bind Q _ (w-pause Q _ v) (λ u. do_ioctl-w Q _ h))
  pmk_set-w false p h w = w-ret

  sae_set-w : (b : Bool) (p : Bytes) → Q (sae_password p).secret → Does Q (sae_set b p)
  unfolding sae_set
  sae_set-w true p h w = w-bind Q _ (w-pause Q _ w) (λ u v. w-bind Q _ (key_laid-w _ v) (λ u. do_ioctl-w Q _ h))
  sae_set-w false p h w = w-ret

  down_on_error-w : (r : Fin (Unit {0})) → Does Q (down_on_error r)
  unfolding down_on_error
  down_on_error-w (fine u) w = w-ret
  down_on_error-w (failed e) w = w-pick Q (is_dev_error e) w-stop w-stop

  length_tested-w : (a : WifiAuth) (m : ℕ) → Does Q (length_tested a m)
  unfolding length_tested
  length_tested-w a m w = w-pick Q (too_long a m) w-stop w-ret

  settled-w : (t : ℕ) → Does Q (settled t)
  unfolding settled
  settled-w t w = w-pick Q (ltb (elapsed 0 t % 4294967296) 150000) (w-pause Q _ w) w-ret

  taken-w : (n : ℕ) (x : Option PendingBuf) → Does Q (taken n x)
  unfolding taken
  taken-w n None w = w-stop
  taken-w n (Some f) w = w-pick Q (ltb n f.len) w-stop (w-pick Q (ltb 2048 (f.offset + f.len)) w-stop w-ret)

  if_down-w : (m : M Result) (s : WifiState) → Does Q m → Does Q (if_down m s)
  unfolding if_down
  if_down-w m WifiState.Down g w = g w
  if_down-w m WifiState.Connecting g w = w-stop
  if_down-w m WifiState.Connected g w = w-stop
  if_down-w m WifiState.Disconnecting g w = w-stop

-- ---- the calls

module _ (Q : Place → Type 0) (n : Q nowhere) where
  then : {A : Type 0} (r : Request) (k : M A) → Q r.secret → Does Q k → Does Q (exchange r >> k)
  then r k h g w = w-bind Q _ (exchange-w Q r h w) (λ u. g)

  trying : {A : Type 0} (r : Request) (k : M A) → Q r.secret → Does Q k → Does Q (tried r >> k)
  trying r k h g w = w-bind Q _ (tried-w Q r h w) (λ u. g)

  waiting : {A : Type 0} (ns : ℕ) (k : M A) → Does Q k → Does Q (pause ns >> k)
  waiting ns k g w = w-bind Q _ (w-pause Q ns w) (λ u. g)

  joined-w : (a : WifiAuth) (ssid p : Bytes) → Q (set_key p).secret → Q (sae_password p).secret → Does Q (joined a ssid p)
  unfolding joined ssid_sent join_ssid
  joined-w a ssid p h g =
      then _ _ n
      (λ w. w-bind Q _ (length_tested-w Q a (length p) w)
      (λ u. then _ _ n
      (then _ _ n
      (then _ _ n
      (trying _ _ n
      (λ w. w-bind Q _ (pmk_set-w Q _ p h w)
      (λ u w. w-bind Q _ (sae_set-w Q _ p g w)
      (λ u. then _ _ n
      (then _ _ n
      (then _ _ n
      (then _ _ n (λ w. w-bind Q _ (w-attempt Q (w-pick Q (ltb 32 (length ssid)) w-stop (exchange-w Q (join_ssid ssid) n _))) (down_on_error-w Q)))))))))))))

  pub join-w : (auth : ℕ) (ssid p : Bytes) → Q (set_key p).secret → Q (sae_password p).secret → Does Q (join auth ssid p)
  unfolding join
  join-w auth ssid p h g w = w-pick Q (ltb auth 6) (if_down-w Q _ w.st.link.state (λ v. joined-w _ ssid p h g _) w) w-stop

  init_sta-w : (c : ℕ) → Does Q (init_sta c)
  unfolding init_sta country event_messages wlc_up
  init_sta-w c =
      then _ _ n
      (waiting _ _
      (then _ _ n
      (trying _ _ n
      (trying _ _ n
      (trying _ _ n
      (trying _ _ n
      (trying _ _ n
      (λ w. w-bind Q _ (w-bind Q _ (w-operate Q Op.read_clock tt w) (settled-w Q)) (λ u. then _ _ n (waiting _ _ (then _ _ n (waiting _ _ (λ v. w-ret)))))))))))))

  -- a call that is no join
  abbrev Other : Call → Type 0
  Other (Call.wifi_init c) = Unit {0}
  Other Call.wifi_scan = Unit {0}
  Other (Call.wifi_connect auth ssid p) = ⊥
  Other Call.wifi_disconnect = Unit {0}
  Other Call.wifi_abort_connect = Unit {0}
  Other Call.wifi_poll = Unit {0}
  Other (Call.send_data i frame) = Unit {0}
  Other (Call.get_rx_buf m) = Unit {0}
  Other (Call.gpio_set pin level) = Unit {0}
  Other Call.get_mac_addr = Unit {0}
  Other (Call.get_ioctl cmd i) = Unit {0}
  Other (Call.set_ioctl cmd value i) = Unit {0}
  Other (Call.write_iovar i name bytes) = Unit {0}
  Other Call.up = Unit {0}

  pub other-w : (c : Call) → Other c → Does Q (call c)
  unfolding call scan disconnect send gpio mac get setting variable_set escan current_address wlc_up
  other-w (Call.wifi_init c) o = init_sta-w c
  other-w Call.wifi_scan o = λ w. w-pick Q w.st.scan.scan_in_progress w-ret (then _ _ n (λ v. w-ret) w)
  other-w (Call.wifi_connect auth ssid p) o = absurd o
  other-w Call.wifi_disconnect o = then _ _ n (λ w. w-bind Q _ (w-operate Q Op.read_tick tt w) (λ t v. w-ret))
  other-w Call.wifi_abort_connect o = then _ _ n (λ w. w-bind Q _ (w-operate Q Op.read_tick tt w) (λ t v. w-ret))
  other-w Call.wifi_poll o = poll-w Q
  other-w (Call.send_data i frame) o = λ w. w-pick Q (is_interface i && leb (length frame) 2030) (w-bind Q _ (send_common-w Q 2 _ nowhere n _) (λ u v. w-ret)) w-stop
  other-w (Call.get_rx_buf m) o = λ w. taken-w Q m w.st.pending.rx w
  other-w (Call.gpio_set pin level) o = λ w. w-pick Q (ltb pin 3) (then _ _ n (λ v. w-ret) w) w-stop
  other-w Call.get_mac_addr o = then _ _ n (λ v. w-ret)
  other-w (Call.get_ioctl cmd i) o = λ w. w-pick Q (is_command cmd && is_interface i) (then _ _ n (λ v. w-ret) w) w-stop
  other-w (Call.set_ioctl cmd value i) o = λ w. w-pick Q (is_command cmd && is_interface i) (then _ _ n (λ v. w-ret) w) w-stop
  other-w (Call.write_iovar i name bytes) o = λ w. w-pick Q (is_interface i && leb (length name + 1 + length bytes) 2020) (then _ _ n (λ v. w-ret) w) w-stop
  other-w Call.up o = then _ _ n (λ v. w-ret)
