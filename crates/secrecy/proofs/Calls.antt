-- Join and the other calls, in two worlds that differ only in secret bytes.
use mathlib.Core.Path.{◌≡◌, refl, sym, ap, ◌∙◌}
use mathlib.Core.Bool.{Bool, true, false, ◌&&◌}
use mathlib.Core.List.{◌∷◌, ◌++◌}
use mathlib.Core.Logic.{◌⊎◌, inl, inr}
use Prim.Native.Nat.{ℕ, ◌+◌, ◌-◌, ◌%◌, ◌≤◌, ◌<◌}
use native.Mathlib.Omega.{arith}
use lib.Dec.{ltb, leb}
use lib.ListN.{length, get_or, replicate, length-append, get_or-append}
use lib.Seq.{get_or-append-add}
use Rattle.slices.specs.Le.{le16, le32_at}
use Rattle.wlan.specs.State.{with_scan, with_pending, with_link, set_frame, set_failure, set_link_state, set_auth, set_tick}
use Rattle.wlan.specs.declared.WifiAuth.{WifiAuth}
use Rattle.wlan.specs.declared.WifiState.{WifiState}
use Rattle.wlan.specs.declared.Success.{Success}
use Rattle.definition.specs.Bus.{Bytes, Place, nowhere}
use Rattle.definition.specs.Prog.{Note, Fin, fine, failed, M, ◌>>◌, pause}
use Rattle.definition.specs.Packet.{data_part}
use Rattle.definition.specs.Scan.{cleared}
use Rattle.definition.specs.Request.{Request, ascii, set_key, sae_password, join_ssid, get_word, escan, current_address}
use Rattle.definition.specs.Send.{elapsed}
use Rattle.definition.specs.Ioctl.{laid, do_ioctl, exchange}
use Rattle.definition.specs.Poll.{Result, giving}
use Rattle.definition.specs.Join.{is_dev_error, too_long, auth_of, frame_waits, reply_waits, ignoring, tried, key_laid, pmk_set, sae_set, ssid_sent, down_on_error, length_tested, joined, if_down, join}
use Rattle.definition.specs.Calls.{Call, is_interface, is_command, settled, init_sta, scan, disconnect, send, taken, gpio, mac_in, mac, get, setting, variable_set, call}
use Rattle.secrecy.specs.Secrecy.{SameCall}
use Rattle.secrecy.proofs.Bufs.{Alike, split, over-alike, part-alike}
use Rattle.secrecy.proofs.Twin.{FrameAlike, Twin, left, right, On, twin-over, twin-moved, twin-key, over-made}
use Rattle.secrecy.proofs.Related.{o-same, Related, r-ret, r-stop, r-note, r-bind, r-weaken, r-attempt, r-pick, r-operate, r-pause}
use Rattle.secrecy.proofs.Send.{Open, Kept, send_common-rel}
use Rattle.secrecy.proofs.Exchange.{Any, do_ioctl-rel, exchange-rel, poll-rel}
use Rattle.std.specs.Prelude.{Option, Some, None}
use Rattle.wlan.specs.declared.PendingBuf.{PendingBuf}

-- a part of a call goes alike
abbrev Goes : {A : Type 0} → M A → M A → Type 1
Goes m m' = (τ : Twin) → Related Any (m (left τ)) (m' (right τ))

-- one after another
then : {A : Type 0} (r : Request) (k k' : M A) → Goes k k' → Goes (exchange r >> k) (exchange r >> k')
then r k k' g τ = r-bind _ _ (exchange-rel r τ) (λ u σ i. g σ)

waiting : {A : Type 0} (ns : ℕ) (k k' : M A) → Goes k k' → Goes (pause ns >> k) (pause ns >> k')
waiting ns k k' g τ = r-bind {P = Any} _ _ (r-pause ns τ tt) (λ u σ i. g σ)

ignoring-rel : (r : Fin (Unit {0})) → Goes (ignoring r) (ignoring r)
unfolding ignoring
ignoring-rel (fine u) τ = r-ret τ tt
ignoring-rel (failed e) τ = r-pick (is_dev_error e) (λ v. r-ret τ tt) (λ v. r-stop τ)

trying : {A : Type 0} (r : Request) (k k' : M A) → Goes k k' → Goes (tried r >> k) (tried r >> k')
unfolding tried
trying r k k' g τ = r-bind _ _ (r-bind _ _ (r-attempt (exchange-rel r τ)) (λ x σ i. ignoring-rel x σ)) (λ u σ i. g σ)

-- ---- the passphrase

get_or_past : (xs ys : Bytes) (i : ℕ) → length xs ≤ i → get_or (xs ++ ys) i 0 ≡ get_or ys (i - length xs) 0
get_or_past xs ys i h =
    let e : i ≡ length xs + (i - length xs) = omega arith in
    ap (λ (j : ℕ). get_or (xs ++ ys) j 0) e ∙ get_or-append-add xs ys (i - length xs) 0

-- two payloads with other bytes in one place
payload-alike : (a p p' z : Bytes) (i : ℕ) → length p ≡ length p' → (length a ≤ i → i < length a + length p → ⊥) → Alike (a ++ (p ++ z)) (a ++ (p' ++ z)) i
payload-alike a p p' z i e h = go (split i (length a)) (split i (length a + length p))
  where
    go : (i < length a) ⊎ (length a ≤ i) → (i < length a + length p) ⊎ (length a + length p ≤ i) → Alike (a ++ (p ++ z)) (a ++ (p' ++ z)) i
    go (inl u) v = get_or-append a (p ++ z) 0 i u ∙ sym (get_or-append a (p' ++ z) 0 i u)
    go (inr u) (inl v) = absurd (h u v)
    go (inr u) (inr v) =
        get_or_past a (p ++ z) i u ∙ (get_or_past p z (i - length a) (omega arith) ∙ (ap (λ (n : ℕ). get_or z (i - length a - n) 0) e ∙ (sym (get_or_past p' z (i - length a) (omega arith)) ∙ sym (get_or_past a (p' ++ z) i u))))

-- a request with a passphrase of n bytes from the payload's byte at on
abbrev key_request : ℕ → ℕ → ℕ → Bytes → Request
key_request cmd at n payload = record { kind = 2; cmd = cmd; interface = 0; payload = payload; secret = record { from = 28 + at; count = n } }

module _ (cmd : ℕ) (a p p' z : Bytes) (e : length p ≡ length p') where
  abbrev one : Bytes
  one = a ++ (p ++ z)

  abbrev two : Bytes
  two = a ++ (p' ++ z)

  same_length : length one ≡ length two
  same_length = omega (arith, length-append a (p ++ z), length-append a (p' ++ z), length-append p z, length-append p' z)

  abbrev secret : Place
  secret = record { from = 28 + length a; count = length p }

  -- the bytes of its packet that are compared
  abbrev Told : ℕ → Type 0
  Told = Open (12 + (16 + length one)) secret

  key_laid-rel : (τ : Twin) → Related (Kept Told) (key_laid (key_request cmd (length a) (length p) one) (left τ)) (key_laid (key_request cmd (length a) (length p) two) (right τ))
  unfolding key_laid laid twin-key
  key_laid-rel τ =
      r-note (Note.key_laid (frame_waits τ.st.pending.rx) (reply_waits τ.st.pending.ioctl_resp))
      (λ u. r-ret (twin-key one two τ same_length u.1.0 u.1.1) (λ i o. over-alike τ.one τ.two 28 one two i τ.size same_length (off i o) (λ h l. payload-alike a p p' z (i - 28) e (λ v w. o.1 (omega arith) (omega arith)))))
    where
      off : (i : ℕ) → Told i → (i < 28) ⊎ (28 + length one ≤ i) → Alike τ.one τ.two i
      off i o (inl h) = τ.front i h
      off i o (inr h) = absurd (omega (arith, o.0))

  key_sent-rel : (τ : Twin) → On Told τ → Related Any (do_ioctl (key_request cmd (length a) (length p) one) (left τ)) (do_ioctl (key_request cmd (length a) (length p) two) (right τ))
  key_sent-rel τ s = r-weaken (λ u σ i. tt) (do_ioctl-rel Told 2 cmd 0 secret one two same_length (λ i o. o) τ s)

pmk_set-rel : (v : Bool) (p p' : Bytes) → length p ≡ length p' → Goes (pmk_set v p) (pmk_set v p')
unfolding pmk_set set_key
pmk_set-rel false p p' e τ = r-ret τ tt
pmk_set-rel true p p' e τ =
    rw (← e) (r-bind _ _ (key_laid-rel 268 a p p' z e τ) (λ u σ i. r-bind {P = Kept (Told 268 a p p' z e)} _ _ (r-pause 2000000 σ i) (λ u ρ j. key_sent-rel 268 a p p' z e ρ j)))
  where
    a : Bytes
    a = le16 (length p) ++ le16 1

    z : Bytes
    z = replicate (64 - length p) 0

sae_set-rel : (v : Bool) (p p' : Bytes) → length p ≡ length p' → Goes (sae_set v p) (sae_set v p')
unfolding sae_set sae_password ascii
sae_set-rel false p p' e τ = r-ret τ tt
sae_set-rel true p p' e τ =
    rw (← e) (r-bind {P = Any} _ _ (r-pause 2000000 τ tt) (λ u σ i. r-bind _ _ (key_laid-rel 263 a p p' z e σ) (λ u ρ j. key_sent-rel 263 a p p' z e ρ j)))
  where
    a : Bytes
    a = ascii "sae_password" ++ (0 ∷ le16 (length p))

    z : Bytes
    z = replicate (128 - length p) 0

-- ---- join

ssid_sent-rel : (s : Bytes) → Goes (ssid_sent s) (ssid_sent s)
unfolding ssid_sent
ssid_sent-rel s τ = r-pick (ltb 32 (length s)) (λ e. r-stop τ) (λ e. r-weaken (λ u σ i. tt) (exchange-rel (join_ssid s) τ))

down_on_error-rel : (r : Fin (Unit {0})) → Goes (down_on_error r) (down_on_error r)
unfolding down_on_error
down_on_error-rel (fine u) τ = r-ret τ tt
down_on_error-rel (failed e) τ =
    r-pick (is_dev_error e) (λ v. r-stop (twin-moved τ (with_link τ.st (set_link_state τ.st.link WifiState.Down)) τ.list τ.waiting)) (λ v. r-stop τ)

length_tested-rel : (a : WifiAuth) (n : ℕ) → Goes (length_tested a n) (length_tested a n)
unfolding length_tested
length_tested-rel a n τ = r-pick (too_long a n) (λ e. r-stop τ) (λ e. r-ret τ tt)

joined-rel : (a : WifiAuth) (ssid p p' : Bytes) → length p ≡ length p' → Goes (joined a ssid p) (joined a ssid p')
unfolding joined
joined-rel a ssid p p' e =
    rw (← e)
    (then _ _ _
    (λ τ. r-bind _ _ (length_tested-rel a (length p) τ)
    (λ u σ i. (then _ _ _
    (then _ _ _
    (then _ _ _
    (trying _ _ _
    (λ τ. r-bind _ _ (pmk_set-rel _ p p' e τ)
    (λ u σ i. r-bind _ _ (sae_set-rel _ p p' e σ)
    (λ u ρ j. (then _ _ _
    (then _ _ _
    (then _ _ _
    (then _ _ _ (λ τ. r-bind _ _ (r-attempt (ssid_sent-rel ssid (connected τ))) (λ r σ i. down_on_error-rel r σ))))))
    ρ)))))))
    σ)))
  where
    connected : Twin → Twin
    connected τ = twin-moved τ (with_link τ.st (set_link_state (set_auth τ.st.link a) WifiState.Connecting)) τ.list τ.waiting

if_down-rel : (m m' : M Result) (s : WifiState) → Goes m m' → Goes (if_down m s) (if_down m' s)
unfolding if_down
if_down-rel m m' WifiState.Down g τ = g τ
if_down-rel m m' WifiState.Connecting g τ = r-stop τ
if_down-rel m m' WifiState.Connected g τ = r-stop τ
if_down-rel m m' WifiState.Disconnecting g τ = r-stop τ

join-rel : (auth : ℕ) (ssid p p' : Bytes) → length p ≡ length p' → Goes (join auth ssid p) (join auth ssid p')
unfolding join
join-rel auth ssid p p' e τ =
    r-pick (ltb auth 6) (λ u. if_down-rel _ _ τ.st.link.state (λ σ. joined-rel (auth_of auth) ssid p p' e (unfailing σ)) τ) (λ u. r-stop τ)
  where
    unfailing : Twin → Twin
    unfailing σ = twin-moved σ (with_link σ.st (set_failure σ.st.link None)) σ.list σ.waiting

-- ---- the other calls

finish : (x : Success) → Goes (giving x) (giving x)
finish x τ = r-ret τ tt

settled-rel : (t : ℕ) → Goes (settled t) (settled t)
unfolding settled
settled-rel t τ = r-pick (ltb (elapsed 0 t % 4294967296) 150000) (λ e. r-pause _ τ tt) (λ e. r-ret τ tt)

init_sta-rel : (c : ℕ) → Goes (init_sta c) (init_sta c)
unfolding init_sta
init_sta-rel c =
    then _ _ _
    (waiting _ _ _
    (then _ _ _
    (trying _ _ _
    (trying _ _ _
    (trying _ _ _
    (trying _ _ _
    (trying _ _ _
    (λ τ. r-bind _ _ (r-bind {P = Any} _ _ (r-operate τ o-same (λ n. tt)) (λ t σ i. settled-rel t σ))
    (λ u σ i. then _ _ _ (waiting _ _ _ (then _ _ _ (waiting _ _ _ (finish Success.Done)))) σ)))))))))

scan-rel : Goes scan scan
unfolding scan
scan-rel τ =
    r-pick τ.st.scan.scan_in_progress (λ e. r-ret τ tt)
    (λ e. r-bind _ _ (exchange-rel escan τ) (λ u σ i. r-ret (twin-moved σ (with_scan σ.st (record { scan_done = false; scan_in_progress = true })) (cleared σ.list) σ.waiting) tt))

disconnect-rel : Goes disconnect disconnect
unfolding disconnect
disconnect-rel =
    then _ _ _ (λ τ. r-bind {P = Any} _ _ (r-operate τ o-same (λ n. tt))
    (λ t σ i. r-ret (twin-moved σ (with_link σ.st (set_tick (set_link_state σ.st.link WifiState.Disconnecting) (Some t))) σ.list σ.waiting) tt))

send-rel : (i : ℕ) (frame : Bytes) → Goes (send i frame) (send i frame)
unfolding send data_part twin-over
send-rel i frame τ =
    r-pick (is_interface i && leb (length frame) 2030)
    (λ e. r-bind _ _ (send_common-rel (λ j. j < 12 + (6 + length frame)) 2 (6 + length frame) nowhere (λ j o. o.0) (twin-over 12 (data_part i frame) τ) (λ j h. by j h (split j 12))) (λ u σ i. r-ret σ tt))
    (λ e. r-stop τ)
  where
    by : (j : ℕ) → j < 12 + (6 + length frame) → (j < 12) ⊎ (12 ≤ j) → Alike (twin-over 12 (data_part i frame) τ).one (twin-over 12 (data_part i frame) τ).two j
    by j h (inl l) = (twin-over 12 (data_part i frame) τ).front j (omega arith)
    by j h (inr l) = over-made 12 (data_part i frame) τ j l (omega arith)

taken-rel : (n : ℕ) (x : Option PendingBuf) (τ : Twin) → FrameAlike x τ.one τ.two → Related Any (taken n x (left τ)) (taken n x (right τ))
unfolding taken
taken-rel n None τ h = r-stop τ
taken-rel n (Some f) τ h =
    rw (← part-alike τ.one τ.two f.offset f.len τ.size h)
    (r-pick (ltb n f.len) (λ e. r-stop σ) (λ e. r-pick (ltb 2048 (f.offset + f.len)) (λ e. r-stop σ) (λ e. r-ret σ tt)))
  where
    σ : Twin
    σ = twin-moved τ (with_pending τ.st (set_frame τ.st.pending None)) τ.list (record { frame = tt; reply = τ.waiting.reply })

gpio-rel : (pin level : ℕ) → Goes (gpio pin level) (gpio pin level)
unfolding gpio
gpio-rel pin level τ = r-pick (ltb pin 3) (λ e. then _ _ _ (finish Success.Done) τ) (λ e. r-stop τ)

address-length : length current_address.payload ≡ 20
unfolding current_address ascii
address-length = refl

mac-rel : Goes mac mac
unfolding mac
mac-rel τ = r-bind _ _ (exchange-rel current_address τ) (λ u σ i. read σ (λ j l. i j (omega (arith, address-length))))
  where
    read : (σ : Twin) → ((j : ℕ) → j < 34 → Alike σ.one σ.two j) → Related Any (giving (Success.Mac (mac_in σ.one)) (left σ)) (giving (Success.Mac (mac_in σ.two)) (right σ))
    read σ f =
        rw (← f 28 (omega arith), ← f 29 (omega arith), ← f 30 (omega arith), ← f 31 (omega arith), ← f 32 (omega arith), ← f 33 (omega arith)) (r-ret σ tt)

get-rel : (cmd i : ℕ) → Goes (get cmd i) (get cmd i)
unfolding get
get-rel cmd i τ =
    r-pick (is_command cmd && is_interface i) (λ e. r-bind _ _ (exchange-rel (get_word cmd i) τ) (λ u σ k. read σ (λ j l. k j (omega arith)))) (λ e. r-stop τ)
  where
    read : (σ : Twin) → ((j : ℕ) → j < 32 → Alike σ.one σ.two j) → Related Any (giving (Success.Word (le32_at σ.one 28)) (left σ)) (giving (Success.Word (le32_at σ.two 28)) (right σ))
    read σ f = rw (← f 28 (omega arith), ← f 29 (omega arith), ← f 30 (omega arith), ← f 31 (omega arith)) (r-ret σ tt)

setting-rel : (cmd value i : ℕ) → Goes (setting cmd value i) (setting cmd value i)
unfolding setting
setting-rel cmd value i τ = r-pick (is_command cmd && is_interface i) (λ e. then _ _ _ (finish Success.Done) τ) (λ e. r-stop τ)

variable_set-rel : (i : ℕ) (name bytes : Bytes) → Goes (variable_set i name bytes) (variable_set i name bytes)
unfolding variable_set
variable_set-rel i name bytes τ =
    r-pick (is_interface i && leb (length name + 1 + length bytes) 2020) (λ e. then _ _ _ (finish Success.Done) τ) (λ e. r-stop τ)

-- ---- a call

call_same : (c : Call) → Goes (call c) (call c)
unfolding call
call_same (Call.wifi_init c) = init_sta-rel c
call_same Call.wifi_scan = scan-rel
call_same (Call.wifi_connect auth ssid p) = join-rel auth ssid p p refl
call_same Call.wifi_disconnect = disconnect-rel
call_same Call.wifi_abort_connect = disconnect-rel
call_same Call.wifi_poll = poll-rel
call_same (Call.send_data i frame) = send-rel i frame
call_same (Call.get_rx_buf n) = λ τ. taken-rel n τ.st.pending.rx τ τ.waiting.frame
call_same (Call.gpio_set pin level) = gpio-rel pin level
call_same Call.get_mac_addr = mac-rel
call_same (Call.get_ioctl cmd i) = get-rel cmd i
call_same (Call.set_ioctl cmd value i) = setting-rel cmd value i
call_same (Call.write_iovar i name bytes) = variable_set-rel i name bytes
call_same Call.up = then _ _ _ (finish Success.Done)

pub call-rel : {c c' : Call} → SameCall c c' → (τ : Twin) → Related Any (call c (left τ)) (call c' (right τ))
unfolding call
call-rel (SameCall.same {c}) τ = call_same c τ
call-rel (SameCall.join {auth} {ssid} {p} {p'} e) τ = join-rel auth ssid p p' e τ
