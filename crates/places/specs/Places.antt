-- A session in its bytes, and one part of it changed there.
use Rattle.std.specs.Prelude.{ℕ, ◌≡◌, true, List, Option}
use Rattle.wlan.specs.declared.Link.{Link}
use Rattle.wlan.specs.declared.ScanMarks.{ScanMarks}
use Rattle.wlan.specs.declared.Sdpcm.{Sdpcm}
use Rattle.wlan.specs.declared.WifiAuth.{WifiAuth}
use Rattle.wlan.specs.declared.WifiState.{WifiState}
use Rattle.wlan.specs.State.{with_sdpcm, with_pending, with_scan, with_link, set_reply, set_frame, set_link_state, set_failure, set_auth, set_tick}
use Rattle.session_bytes.specs.declared.session.Session.{Session}
use Rattle.session_bytes.specs.Session.{is_session, session_in, with_state}
use Rattle.wlan.specs.declared.WifiConnectFailure.{WifiConnectFailure}
use Rattle.wlan.specs.declared.PendingIoctlResp.{PendingIoctlResp}
use Rattle.wlan.specs.declared.PendingBuf.{PendingBuf}

-- the bytes are a session's, and give this one back
pub record Holds (b : List ℕ) (s : Session) : Type 0 where
  pub known : is_session b ≡ true
  pub back : session_in b ≡ s

-- the session that bytes hold, with another part

abbrev pub sdpcm_put : List ℕ → Sdpcm → Session
sdpcm_put b x = with_state b (with_sdpcm (session_in b).st x)

abbrev pub marks_put : List ℕ → ScanMarks → Session
marks_put b x = with_state b (with_scan (session_in b).st x)

abbrev pub reply_put : List ℕ → Option PendingIoctlResp → Session
reply_put b x = with_state b (with_pending (session_in b).st (set_reply (session_in b).st.pending x))

abbrev pub frame_put : List ℕ → Option PendingBuf → Session
frame_put b x = with_state b (with_pending (session_in b).st (set_frame (session_in b).st.pending x))

abbrev pub link_put : List ℕ → Link → Session
link_put b x = with_state b (with_link (session_in b).st x)

abbrev pub wifi_put : List ℕ → WifiState → Session
wifi_put b x = with_state b (with_link (session_in b).st (set_link_state (session_in b).st.link x))

abbrev pub auth_put : List ℕ → WifiAuth → Session
auth_put b x = with_state b (with_link (session_in b).st (set_auth (session_in b).st.link x))

abbrev pub failure_put : List ℕ → Option WifiConnectFailure → Session
failure_put b x = with_state b (with_link (session_in b).st (set_failure (session_in b).st.link x))

abbrev pub tick_put : List ℕ → Option ℕ → Session
tick_put b x = with_state b (with_link (session_in b).st (set_tick (session_in b).st.link x))
