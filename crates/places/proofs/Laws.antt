-- One part changed: the others are read as before.
use mathlib.Core.Path.{◌≡◌, refl, sym, ap, ◌∙◌}
use mathlib.Core.Bool.{Bool, true, false}
use mir.Val.{bool_byte}
use mathlib.Core.List.{List, [], ◌∷◌, ◌++◌}
use Prim.Native.Nat.{ℕ, ◌<◌}
use lib.ListN.{take, drop}
use Rattle.slices.specs.Over.{over}
use Rattle.wlan.specs.declared.Link.{Link}
use Rattle.wlan.specs.declared.Pending.{Pending}
use Rattle.wlan.specs.declared.ScanMarks.{ScanMarks}
use Rattle.wlan.specs.declared.Sdpcm.{Sdpcm}
use Rattle.wlan.specs.declared.State.{State}
use Rattle.wlan.specs.declared.WifiAuth.{WifiAuth}
use Rattle.wlan.specs.declared.WifiState.{WifiState}
use Rattle.wlan.specs.State.{with_sdpcm, with_pending, with_scan, with_link, set_reply, set_frame, set_link_state, set_failure, set_auth, set_tick}
use Rattle.definition.specs.Player.{state_number}
use Rattle.connect_failure.specs.declared.FailureParts.{FailureParts}
use Rattle.state_bytes.specs.declared.parts.FrameParts.{FrameParts}
use Rattle.state_bytes.specs.declared.parts.ReplyParts.{ReplyParts}
use Rattle.state_bytes.specs.declared.parts.TickParts.{TickParts}
use Rattle.state_bytes.specs.Numbers.{bit, auth_number}
use Rattle.connect_failure.specs.Parts.{failure_parts, failure_of}
use Rattle.state_bytes.specs.Parts.{reply_parts, reply_of, frame_parts, frame_of, tick_parts, tick_of}
use Rattle.state_bytes.specs.StateBytes.{front_bytes, reply_bytes, frame_bytes, pending_bytes, failure_bytes, tick_bytes, link_bytes, state_bytes, state_in, pending_in, reply_in, frame_in, link_in, failure_in, tick_in}
use Rattle.connect_failure.proofs.Laws.{failure-back}
use Rattle.state_bytes.proofs.Laws as law
use Rattle.session_bytes.specs.declared.session.Session.{Session}
use Rattle.session_bytes.specs.ListBytes.{list_bytes}
use Rattle.session_bytes.specs.Session.{session_bytes, session_in, is_session, with_state}
use Rattle.session_bytes.proofs.Laws as ses
use Rattle.places.specs.Places as to
use Rattle.std.specs.Prelude.{Option, ℕ}
use Rattle.wlan.specs.declared.WifiConnectFailure.{WifiConnectFailure}
use Rattle.wlan.specs.declared.PendingIoctlResp.{PendingIoctlResp}
use Rattle.wlan.specs.declared.PendingBuf.{PendingBuf}

-- what `u8::from` gives
pub mark-is : (b : Bool) → bool_byte b ≡ bit b
unfolding bit
mark-is true = refl
mark-is false = refl

pub holds-bytes : {b : List ℕ} {s : Session} → to.Holds b s → b ≡ session_bytes s
holds-bytes {b} {s} h = sym (ses.session-form b h.known) ∙ ap session_bytes h.back

-- ---- a part that is laid

link-back : (l : Link) → failure_of (failure_in (law.link_raw (state_number l.state) (auth_number l.current_auth) (failure_parts l.connect_failure) (tick_parts l.disconnect_started_tick))) ≡ l.connect_failure
    → tick_of (tick_in (law.link_raw (state_number l.state) (auth_number l.current_auth) (failure_parts l.connect_failure) (tick_parts l.disconnect_started_tick))) ≡ l.disconnect_started_tick
    → link_in (link_bytes l) ≡ l
unfolding link_bytes link_in
link-back l h k = rw (h, k, law.wifi-back l.state, law.auth-back l.current_auth)

module _ (b : List ℕ) (h : is_session b ≡ true) where
  abbrev s : State
  s = (session_in b).st

  pending-bytes : take 14 (drop 7 b) ≡ pending_bytes s.pending
  unfolding session_bytes state_bytes front_bytes pending_bytes
  pending-bytes = ap (λ (l : List ℕ). take 14 (drop 7 l)) (sym (ses.session-form b h))

  link-bytes : take 20 (drop 21 b) ≡ link_bytes s.link
  unfolding session_bytes state_bytes front_bytes pending_bytes link_bytes
  link-bytes = ap (λ (l : List ℕ). take 20 (drop 21 l)) (sym (ses.session-form b h))

  pending-kept : pending_in (pending_bytes s.pending) ≡ s.pending
  unfolding session_in state_in
  pending-kept = ap pending_in (sym pending-bytes)

  link-kept : link_in (link_bytes s.link) ≡ s.link
  unfolding session_in state_in
  link-kept = ap link_in (sym link-bytes)

  -- the bytes are those of the session with the state t, and t is read back
  holds : {d : List ℕ} (t : State) → d ≡ session_bytes (with_state b t) → state_in (state_bytes t) ≡ t → to.Holds d (with_state b t)
  holds t e k = record { known = ap is_session e ∙ ses.state-known b h t k; back = ap session_in e ∙ ses.state-back b h t k }

  over-form : {d : List ℕ} (at : ℕ) (p : List ℕ) → d ≡ over b at p → d ≡ over (session_bytes (session_in b)) at p
  over-form at p e = e ∙ ap (λ (l : List ℕ). over l at p) (sym (ses.session-form b h))

  pub sdpcm-put : {d : List ℕ} (x : Sdpcm) → d ≡ over b 0 (x.packet_tx_seq ∷ x.last_bus_data_credit ∷ x.wlan_flow_control ∷ x.requested_ioctl_id ∷ bit x.had_successful_packet ∷ []) → to.Holds d (to.sdpcm_put b x)
  unfolding session_bytes state_bytes front_bytes pending_bytes over
  sdpcm-put x e = holds (with_sdpcm s x) (over-form 0 _ e) (law.state-back (with_sdpcm s x) pending-kept link-kept)

  pub marks-put : {d : List ℕ} (x : ScanMarks) → d ≡ over b 5 (bit x.scan_done ∷ bit x.scan_in_progress ∷ []) → to.Holds d (to.marks_put b x)
  unfolding session_bytes state_bytes front_bytes pending_bytes over
  marks-put x e = holds (with_scan s x) (over-form 5 _ e) (law.state-back (with_scan s x) pending-kept link-kept)

  -- the frame and the reply are read apart

  frame-kept : (a : ReplyParts) → frame_of (frame_in (reply_bytes a ++ frame_bytes (frame_parts s.pending.rx))) ≡ s.pending.rx
  unfolding pending_bytes pending_in frame_in
  frame-kept a = ap (λ (p : Pending). p.rx) pending-kept

  reply-kept : (f : FrameParts) → reply_of (reply_in (reply_bytes (reply_parts s.pending.ioctl_resp) ++ frame_bytes f)) ≡ s.pending.ioctl_resp
  unfolding pending_bytes pending_in reply_in
  reply-kept f = ap (λ (p : Pending). p.ioctl_resp) pending-kept

  pub reply-put : {d : List ℕ} (x : Option PendingIoctlResp) (a : ReplyParts) → a ≡ reply_parts x → reply_of a ≡ x → a.offset < 65536 → a.len < 65536 → a.status < 4294967296
      → d ≡ over b 7 (reply_bytes a) → to.Holds d (to.reply_put b x)
  unfolding session_bytes state_bytes front_bytes pending_bytes pending_in link_bytes over
  reply-put x a ea ba i j k e =
      holds (with_pending s (set_reply s.pending x)) (rw (← ea) (over-form 7 _ e))
      (law.state-back (with_pending s (set_reply s.pending x)) (rw (← ea, law.reply-in-is a (frame_bytes (frame_parts s.pending.rx)) i j k, ba, frame-kept a)) link-kept)

  pub frame-put : {d : List ℕ} (x : Option PendingBuf) (f : FrameParts) → f ≡ frame_parts x → f.offset < 65536 → f.len < 65536
      → d ≡ over b 16 (frame_bytes f) → to.Holds d (to.frame_put b x)
  unfolding session_bytes state_bytes front_bytes pending_bytes pending_in link_bytes over
  frame-put x f ef i j e =
      holds (with_pending s (set_frame s.pending x)) (rw (← ef) (over-form 16 _ e))
      (law.state-back (with_pending s (set_frame s.pending x)) (rw (← ef, law.frame-in-is (reply_parts s.pending.ioctl_resp) f i j, reply-kept f, ef, law.frame_back x)) link-kept)

  -- the connection's parts are read apart

  failure-kept : (w a : ℕ) (t : TickParts) → failure_of (failure_in (law.link_raw w a (failure_parts s.link.connect_failure) t)) ≡ s.link.connect_failure
  unfolding link_bytes link_in failure_in
  failure-kept w a t = ap (λ (l : Link). l.connect_failure) link-kept

  tick-kept : (w a : ℕ) (f : FailureParts) → tick_of (tick_in (law.link_raw w a f (tick_parts s.link.disconnect_started_tick))) ≡ s.link.disconnect_started_tick
  unfolding link_bytes link_in tick_in
  tick-kept w a f = ap (λ (l : Link). l.disconnect_started_tick) link-kept

  pub wifi-put : {d : List ℕ} (x : WifiState) → d ≡ over b 21 (state_number x ∷ []) → to.Holds d (to.wifi_put b x)
  unfolding session_bytes state_bytes front_bytes pending_bytes link_bytes list_bytes over
  wifi-put x e = holds (with_link s (set_link_state s.link x)) (over-form 21 _ e) (law.state-back (with_link s (set_link_state s.link x)) pending-kept (link-back (set_link_state s.link x) (failure-kept _ _ _) (tick-kept _ _ _)))

  pub auth-put : {d : List ℕ} (x : WifiAuth) → d ≡ over b 22 (auth_number x ∷ []) → to.Holds d (to.auth_put b x)
  unfolding session_bytes state_bytes front_bytes pending_bytes link_bytes list_bytes over
  auth-put x e = holds (with_link s (set_auth s.link x)) (over-form 22 _ e) (law.state-back (with_link s (set_auth s.link x)) pending-kept (link-back (set_auth s.link x) (failure-kept _ _ _) (tick-kept _ _ _)))

  pub failure-put : {d : List ℕ} (x : Option WifiConnectFailure) (f : FailureParts) → f ≡ failure_parts x → f.status < 4294967296 → f.reason < 4294967296
      → d ≡ over b 23 (failure_bytes f) → to.Holds d (to.failure_put b x)
  unfolding session_bytes state_bytes front_bytes pending_bytes link_bytes list_bytes over
  failure-put x f ef i j e =
      holds (with_link s (set_failure s.link x)) (rw (← ef) (over-form 23 _ e))
      (law.state-back (with_link s (set_failure s.link x)) pending-kept (link-back (set_failure s.link x) (rw (← ef, law.failure-in-is _ _ f _ i j, ef, failure-back x)) (tick-kept _ _ _)))

  pub tick-put : {d : List ℕ} (x : Option ℕ) (t : TickParts) → t ≡ tick_parts x → t.tick < 18446744073709551616 → d ≡ over b 32 (tick_bytes t) → to.Holds d (to.tick_put b x)
  unfolding session_bytes state_bytes front_bytes pending_bytes link_bytes list_bytes over
  tick-put x t et i e =
      holds (with_link s (set_tick s.link x)) (rw (← et) (over-form 32 _ e))
      (law.state-back (with_link s (set_tick s.link x)) pending-kept (link-back (set_tick s.link x) (failure-kept _ _ _) (rw (← et, law.tick-in-is _ _ _ t i, et, law.tick-back x))))

-- the connection's parts are laid one after the other
pub link-put : (b : List ℕ) {c d e f : List ℕ} (x : Link) → to.Holds c (to.wifi_put b x.state) → to.Holds d (to.auth_put c x.current_auth) → to.Holds e (to.failure_put d x.connect_failure)
    → to.Holds f (to.tick_put e x.disconnect_started_tick) → to.Holds f (to.link_put b x)
link-put b x h k m n = record { known = n.known; back = rw (m.back, k.back, h.back) at n.back }
