-- A call's beginning is the front of its tree. What a premise says of the job is what a call is to build.
use mathlib.Core.Path.{◌≡◌, refl, sym, ap, ◌∙◌, fun_ext}
use mathlib.Core.Bool.{Bool, true, false}
use mathlib.Core.List.{List, [], ◌∷◌}
use Prim.Native.Nat.{ℕ, ◌+◌}
use native.Mathlib.Omega.{arith}
use lib.Dec.{ltb}
use lib.ListN.{length}
use Rattle.slices.specs.Pick.{pick}
use Rattle.slices.specs.Over.{over}
use Rattle.wlan.specs.State.{with_link, set_failure}
use Rattle.wlan.specs.declared.WifiAuth.{WifiAuth}
use Rattle.wlan.specs.declared.WifiState.{WifiState}
use Rattle.wlan.specs.declared.DriverError.{DriverError}
use Rattle.wlan.specs.declared.Success.{Success}
use Rattle.wlan.specs.declared.AsyncEvent.{AsyncEvent}
use Rattle.wlan.specs.declared.State.{State}
use Rattle.definition.specs.Bus.{Bytes, nowhere}
use Rattle.definition.specs.Prog.{World, world, with_state, with_buf, Prog, ret, stop, M, bind, ◌>>=◌, ◌>>◌, attempt}
use Rattle.definition.specs.Packet.{data_part}
use Rattle.definition.specs.Request as def
use Rattle.definition.specs.Send.{send_common, until_free}
use Rattle.definition.specs.Ioctl.{exchange}
use Rattle.definition.specs.Poll.{Result, giving, poll, unfailed}
use Rattle.definition.specs.Join.{tried, security, pmk_set, sae_set, too_long, length_tested, ssid_sent, connecting, down_on_error, joined, if_down}
use Rattle.definition.specs.Calls.{init_sta, scan, disconnect}
use Rattle.definition.proofs.Compose.{unroll, followed}
use Rattle.handling.specs.Handle.{list_heard}
use Rattle.requests.specs.Request.{request_of}
use Rattle.send.specs.Send as send
use Rattle.send.specs.Meaning.{laid_header, after_free}
use Rattle.send.proofs.Bridge as send-bridge
use Rattle.control.specs.declared.Job.{Job}
use Rattle.control.specs.declared.Stage.{Stage}
use Rattle.control.specs.declared.Before.{Before}
use Rattle.control.specs.declared.RequestPut.{RequestPut}
use Rattle.control.specs.declared.CallStep.{CallStep}
use Rattle.control.specs.declared.Ending.{Ending}
use Rattle.control.specs.Steps.{ends}
use Rattle.control.specs.Stages.{request_at, is_tried, is_last}
use Rattle.control.specs.Poll.{polling_step}
use Rattle.control.specs.Begin.{exchanges_step, scan_start, join_by, join_start, frame_out, sending_step, frame_start}
use Rattle.control.specs.Meaning.{Args, lens_of, request_in, laid_before, laid_request, laid_all, list_at, success_of, rest, call_tree, call_shown, ssid_tried}
use Rattle.control.proofs.StageBridge.{Modest, plain-begin}
use Rattle.control.proofs.Bridge.{polling-is, sending-is}
use Rattle.std.specs.Prelude.{None}

module _ (a : Args) (m : Modest a) where
  -- from an exchange on
  exchanges-is : (g : Stage) (e : AsyncEvent) (s : State) (w : World) → is_tried g ≡ false → is_last g ≡ false → unroll (bind (exchange (request_in a g) (with_state w s)) (λ u. rest a g)) ≡ call_shown a (exchanges_step a.job (lens_of a) g s) e w
  unfolding laid_before list_heard
  exchanges-is g e s w t l = plain-begin a g false Before.None e s w m t l

  pub init-is : (e : AsyncEvent) (w : World) → unroll (init_sta a.job.country w) ≡ call_shown a (exchanges_step a.job (lens_of a) Stage.Country w.st) e w
  unfolding init_sta rest request_at is_tried is_last
  init-is e w = exchanges-is Stage.Country e w.st w refl refl

  pub scan-is : (e : AsyncEvent) (w : World) → unroll (scan w) ≡ call_shown a (scan_start a.job (lens_of a) w.st) e w
  unfolding unroll scan scan_start rest request_at is_tried is_last call_tree success_of laid_before laid_request laid_header laid_all list_heard list_at
  scan-is e w = by w.st.scan.scan_in_progress
    where
      by : (b : Bool) → unroll (pick b (giving Success.Done w) (bind (exchange def.escan w) (λ u. rest a Stage.Escan))) ≡ call_shown a (pick b (ends w.st false Before.None Ending.Done) (exchanges_step a.job (lens_of a) Stage.Escan w.st)) e w
      by true = refl
      by false = exchanges-is Stage.Escan e w.st w refl refl

  pub leave-is : (e : AsyncEvent) (w : World) → unroll (disconnect w) ≡ call_shown a (exchanges_step a.job (lens_of a) Stage.Disassoc w.st) e w
  unfolding disconnect rest request_at is_tried is_last
  leave-is e w = exchanges-is Stage.Disassoc e w.st w refl refl

  -- a call that is one exchange
  pub single-is : (e : AsyncEvent) (w : World) → unroll (bind (exchange (request_of a.job.request a.first a.second) w) (λ u v. giving (success_of a.job.ending v.buf) v)) ≡ call_shown a (exchanges_step a.job (lens_of a) Stage.Single w.st) e w
  unfolding rest request_at is_tried is_last
  single-is e w = exchanges-is Stage.Single e w.st w refl refl

  pub poll-start-is : (e : AsyncEvent) (w : World) → unroll (poll w) ≡ call_shown a (polling_step w.st false) e w
  unfolding poll bind list_heard
  poll-start-is e w = polling-is a m false e w.st w

  -- the frame is the first byte argument
  pub send-start-is : (i : ℕ) (e : AsyncEvent) (w : World) → a.job.size ≡ 18 + length a.first → unroll (bind (send_common 2 (6 + length a.first) nowhere (with_buf w (over w.buf 12 (data_part i a.first)))) (λ u. giving Success.Done)) ≡ call_shown a (frame_start a.job i w.st) e w
  unfolding send_common sending_step laid_request list_heard
  send-start-is i e w q =
      let v = with_buf w (over w.buf 12 (data_part i a.first)) in
      let r = send.start_step w.st (frame_out a.job) in
      rw (size) (followed (λ u. giving Success.Done) (bind (until_free v) (after_free (frame_out a.job) nowhere)) _ (send-bridge.start_is (frame_out a.job) nowhere e v)
      ∙ sending-is a m r.heard (RequestPut.Data i) r.next e r.st w)
    where
      size : 12 + (6 + length a.first) ≡ a.job.size
      size = omega (arith, q)

  -- ---- join

  module _ (ssid passphrase : Bytes) where
    -- the byte arguments are join's where join comes to use them
    pub record JoinArgs : Type 0 where
      pub long-passphrase : a.job.long_passphrase ≡ too_long a.job.auth (length passphrase)
      pub long-ssid : a.job.long_ssid ≡ ltb 32 (length ssid)
      pub key : (security a.job.auth).supplicant ≡ 1 → too_long a.job.auth (length passphrase) ≡ false → a.second ≡ passphrase
      pub network : ltb 32 (length ssid) ≡ false → a.first ≡ ssid

    abbrev tested : Bool → M (Unit {0})
    tested b w = pick b (stop DriverError.InvalidArg w) (ret tt w)

    abbrev keyed : WifiAuth → Bytes → M Result → M Result
    keyed auth p k =
        exchange (def.set_word 134 (security auth).wsec 0)
        >> (exchange (def.iovar "bsscfg:sup_wpa" (0 ∷ (security auth).supplicant ∷ []))
        >> (exchange (def.iovar "bsscfg:sup_wpa2_eapver" (0 ∷ 0xffffffff ∷ []))
        >> (tried (def.iovar "bsscfg:sup_wpa_tmo" (0 ∷ 5000 ∷ []))
        >> (pmk_set (security auth).pmk p
        >> (sae_set (security auth).sae p
        >> (exchange (def.set_word 20 1 0)
        >> (exchange (def.set_word 22 (security auth).auth_type 0)
        >> (exchange (def.iovar "mfp" ((security auth).mfp ∷ []))
        >> (exchange (def.set_word 165 (security auth).wpa_auth 0) >> k)))))))))

    ssid-is : JoinArgs → ssid_sent ssid ≡ ssid_tried a
    unfolding ssid_sent
    ssid-is j = fun_ext (λ w. rw j.long-ssid (by w (ltb 32 (length ssid)) j.network))
      where
        by : (w : World) (b : Bool) → (b ≡ false → a.first ≡ ssid) → pick b (stop DriverError.InvalidArg w) (exchange (def.join_ssid ssid) w) ≡ pick b (stop DriverError.InvalidArg w) (exchange (def.join_ssid a.first) w)
        by w true f = refl
        by w false f = ap (λ s. exchange (def.join_ssid s) w) (sym (f refl))

    key-is : (auth : WifiAuth) (b : Bool) (k : M Result) → ((security auth).supplicant ≡ 1 → b ≡ false → a.second ≡ passphrase) → (tested b >> keyed auth passphrase k) ≡ (tested b >> keyed auth a.second k)
    unfolding bind pmk_set sae_set
    key-is auth true k f = refl
    key-is WifiAuth.Open false k f = refl
    key-is WifiAuth.WpaTkipPsk false k f = ap (λ p. tested false >> keyed WifiAuth.WpaTkipPsk p k) (sym (f refl refl))
    key-is WifiAuth.Wpa2AesPsk false k f = ap (λ p. tested false >> keyed WifiAuth.Wpa2AesPsk p k) (sym (f refl refl))
    key-is WifiAuth.Wpa2MixedPsk false k f = ap (λ p. tested false >> keyed WifiAuth.Wpa2MixedPsk p k) (sym (f refl refl))
    key-is WifiAuth.Wpa3SaeAesPsk false k f = ap (λ p. tested false >> keyed WifiAuth.Wpa3SaeAesPsk p k) (sym (f refl refl))
    key-is WifiAuth.Wpa3Wpa2AesPsk false k f = ap (λ p. tested false >> keyed WifiAuth.Wpa3Wpa2AesPsk p k) (sym (f refl refl))

    abbrev last : M (Unit {0}) → M Result
    last f = (λ w. attempt (f (connecting a.job.auth w))) >>= down_on_error

    after_is : JoinArgs → (length_tested a.job.auth (length passphrase) >> keyed a.job.auth passphrase (last (ssid_sent ssid))) ≡ rest a Stage.JoinBaWsize
    unfolding length_tested rest
    after_is j =
        key-is a.job.auth (too_long a.job.auth (length passphrase)) (last (ssid_sent ssid)) j.key
        ∙ (ap (λ b. tested b >> keyed a.job.auth a.second (last (ssid_sent ssid))) (sym j.long-passphrase)
        ∙ ap (λ f. tested a.job.long_passphrase >> keyed a.job.auth a.second (last f)) (ssid-is j))

    pub join_is : JoinArgs → (e : AsyncEvent) (w : World) → unroll (if_down (λ v. joined a.job.auth ssid passphrase (unfailed v)) w.st.link.state w) ≡ call_shown a (join_start a.job (lens_of a) w.st) e w
    unfolding unroll if_down joined join_by request_at is_tried is_last call_tree laid_before laid_request laid_header laid_all list_heard list_at
    join_is j e w = by w.st.link.state
      where
        by : (s : WifiState) → unroll (if_down (λ v. joined a.job.auth ssid passphrase (unfailed v)) s w) ≡ call_shown a (join_by a.job (lens_of a) w.st s) e w
        by WifiState.Down =
            ap (λ k. unroll (bind (exchange (request_in a Stage.JoinBaWsize) (unfailed w)) (λ u. k))) (after_is j)
            ∙ exchanges-is Stage.JoinBaWsize e (with_link w.st (set_failure w.st.link None)) w refl refl
        by WifiState.Connecting = refl
        by WifiState.Connected = refl
        by WifiState.Disconnecting = refl
