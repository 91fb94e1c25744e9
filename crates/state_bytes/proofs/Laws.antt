-- What is read back is what was written.
use mathlib.Core.Path.{◌≡◌, refl, ap}
use mathlib.Core.Bool.{Bool, true, false}
use mathlib.Core.List.{List, [], ◌∷◌, ◌++◌}
use Prim.Native.Nat.{ℕ, suc, ◌+◌, ◌*◌, ◌-◌, ◌/◌, ◌%◌, ◌≤◌, ◌<◌}
use native.Mathlib.Omega.{arith}
use lib.Dec.{eqb}
use lib.ListN.{length, take, drop}
use lib.IntN.{ℤ, pos, negsuc}
use borrow.Author.Tests.{lt-ltb, le-ltb}
use mir.Syntax.{w16, w32, w64}
use Rattle.std.specs.Int.{from_le_bytes}
use mir.Val.{of_z, SFits}
use Rattle.slices.specs.Le.{signed16, signed32}
use Rattle.wlan.specs.declared.WifiAuth.{WifiAuth}
use Rattle.wlan.specs.declared.WifiState.{WifiState}
use Rattle.wlan.specs.declared.Pending.{Pending}
use Rattle.wlan.specs.declared.PendingIoctlResp.{PendingIoctlResp}
use Rattle.wlan.specs.declared.ScanMarks.{ScanMarks}
use Rattle.wlan.specs.declared.Sdpcm.{Sdpcm}
use Rattle.wlan.specs.declared.State.{State}
use Rattle.definition.specs.Player.{state_number}
use Rattle.definition.specs.Join.{auth_of}
use Rattle.state_bytes.specs.declared.parts.ReplyParts.{ReplyParts}
use Rattle.state_bytes.specs.declared.parts.FrameParts.{FrameParts}
use Rattle.state_bytes.specs.declared.parts.TickParts.{TickParts}
use Rattle.connect_failure.specs.declared.FailureParts.{FailureParts}
use Rattle.state_bytes.specs.Numbers.{bit, wifi_of, auth_number, unsigned16, unsigned32}
use Rattle.state_bytes.specs.Parts.{waiting_reply, reply_parts, reply_of, frame_parts, frame_of, tick_parts, tick_of}
use Rattle.state_bytes.specs.StateBytes.{front_bytes, reply_bytes, frame_bytes, pending_bytes, failure_bytes, tick_bytes, link_bytes, state_bytes, sdpcm_in, reply_in, frame_in, pending_in, failure_in, tick_in, link_in, marks_in, state_in}
use Rattle.std.specs.Prelude.{Option, Some, None, ℕ}
use Rattle.wlan.specs.declared.PendingBuf.{PendingBuf}

pub bit-back : (b : Bool) → eqb (bit b) 1 ≡ b
unfolding bit
bit-back true = refl
bit-back false = refl

pub wifi-back : (s : WifiState) → wifi_of (state_number s) ≡ s
unfolding wifi_of state_number
wifi-back WifiState.Down = refl
wifi-back WifiState.Connecting = refl
wifi-back WifiState.Connected = refl
wifi-back WifiState.Disconnecting = refl

pub auth-back : (a : WifiAuth) → auth_of (auth_number a) ≡ a
unfolding auth_of auth_number
auth-back WifiAuth.Open = refl
auth-back WifiAuth.WpaTkipPsk = refl
auth-back WifiAuth.Wpa2AesPsk = refl
auth-back WifiAuth.Wpa2MixedPsk = refl
auth-back WifiAuth.Wpa3SaeAesPsk = refl
auth-back WifiAuth.Wpa3Wpa2AesPsk = refl

pub frame_back : (r : Option PendingBuf) → frame_of (frame_parts r) ≡ r
unfolding frame_of frame_parts
frame_back None = refl
frame_back (Some b) = refl

pub tick-back : (t : Option ℕ) → tick_of (tick_parts t) ≡ t
unfolding tick_of tick_parts
tick-back None = refl
tick-back (Some n) = refl

-- ---- le bytes

pub le16-back : (n : ℕ) → n < 65536 → n % 256 + 256 * (n / 256 % 256) ≡ n
le16-back n h = omega arith

pub le32-back : (n : ℕ) → n < 4294967296 → n % 256 + 256 * (n / 256 % 256) + 65536 * (n / 65536 % 256) + 16777216 * (n / 16777216 % 256) ≡ n
le32-back n h = omega arith

pub le64-back : (n : ℕ) → n < 18446744073709551616 → n % 256 + 256 * (n / 256 % 256) + 65536 * (n / 65536 % 256) + 16777216 * (n / 16777216 % 256) + 4294967296 * (n / 4294967296 % 256 + 256 * (n / 1099511627776 % 256) + 65536 * (n / 281474976710656 % 256) + 16777216 * (n / 72057594037927936 % 256)) ≡ n
le64-back n h = omega arith

-- ---- what `from_le_bytes` reads

pub pair-is : (a b : ℕ) {n : ℕ} → n ≡ from_le_bytes w16 (a ∷ b ∷ []) → n ≡ a + 256 * b
pair-is a b e = omega arith

pub quad-is : (a b c d : ℕ) {n : ℕ} → n ≡ from_le_bytes w32 (a ∷ b ∷ c ∷ d ∷ []) → n ≡ a + 256 * b + 65536 * c + 16777216 * d
quad-is a b c d e = omega arith

pub eight-is : (a b c d e f g h : ℕ) {n : ℕ} → n ≡ from_le_bytes w64 (a ∷ b ∷ c ∷ d ∷ e ∷ f ∷ g ∷ h ∷ [])
    → n ≡ a + 256 * b + 65536 * c + 16777216 * d + 4294967296 * (e + 256 * f + 65536 * g + 16777216 * h)
eight-is a b c d e f g h i = omega arith

-- ---- signed numbers

pub is-unsigned16 : (x : ℤ) → SFits w16 x → of_z w16 x ≡ unsigned16 x
unfolding unsigned16
is-unsigned16 (pos n) f = refl
is-unsigned16 (negsuc n) f = omega arith

pub is-unsigned32 : (x : ℤ) → SFits w32 x → of_z w32 x ≡ unsigned32 x
unfolding unsigned32
is-unsigned32 (pos n) f = refl
is-unsigned32 (negsuc n) f = omega arith

pub signed16-back : (x : ℤ) → SFits w16 x → signed16 (of_z w16 x) ≡ x
unfolding signed16
signed16-back (pos n) f = simp (lt-ltb n 32768 f.sfits)
signed16-back (negsuc n) f =
    let h : 32768 ≤ 65536 - suc n = omega (arith, f.sfits) in
    simp (le-ltb _ _ h) (ap negsuc (omega (arith, f.sfits)))

pub signed32-back : (x : ℤ) → SFits w32 x → signed32 (of_z w32 x) ≡ x
unfolding signed32
signed32-back (pos n) f = simp (lt-ltb n 2147483648 f.sfits)
signed32-back (negsuc n) f =
    let h : 2147483648 ≤ 4294967296 - suc n = omega (arith, f.sfits) in
    simp (le-ltb _ _ h) (ap negsuc (omega (arith, f.sfits)))

-- ---- the groups of a state

pub reply-back : {p : ReplyParts} {x : PendingIoctlResp} → p ≡ waiting_reply x → signed32 p.status ≡ x.status → reply_of p ≡ Some x
unfolding reply_of waiting_reply
reply-back {p} {x} e h = rw (h, e)

pub reply-in-is : (a : ReplyParts) (t : List ℕ) → a.offset < 65536 → a.len < 65536 → a.status < 4294967296 → reply_in (reply_bytes a ++ t) ≡ a
unfolding reply_in
reply-in-is a t h k l = rw (le16-back a.offset h, le16-back a.len k, le32-back a.status l)

pub frame-in-is : (a : ReplyParts) (f : FrameParts) → f.offset < 65536 → f.len < 65536 → frame_in (reply_bytes a ++ frame_bytes f) ≡ f
unfolding frame_in
frame-in-is a f h k = rw (le16-back f.offset h, le16-back f.len k)

pub pending-is : (p : Pending) (a : ReplyParts) (f : FrameParts) → a ≡ reply_parts p.ioctl_resp → reply_of a ≡ p.ioctl_resp → f ≡ frame_parts p.rx
    → a.offset < 65536 → a.len < 65536 → a.status < 4294967296 → f.offset < 65536 → f.len < 65536
    → (reply_bytes a ++ frame_bytes f ≡ pending_bytes p) × (pending_in (reply_bytes a ++ frame_bytes f) ≡ p)
unfolding pending_bytes pending_in
pending-is p a f ea ba ef h k l m n =
    (rw (ea, ef), rw (reply-in-is a (frame_bytes f) h k l, frame-in-is a f m n, ba, ef, frame_back p.rx))

abbrev pub link_raw : ℕ → ℕ → FailureParts → TickParts → List ℕ
link_raw w a f t = w ∷ a ∷ (failure_bytes f ++ tick_bytes t)

pub failure-in-is : (w a : ℕ) (f : FailureParts) (t : TickParts) → f.status < 4294967296 → f.reason < 4294967296 → failure_in (link_raw w a f t) ≡ f
unfolding failure_in
failure-in-is w a f t h k = rw (le32-back f.status h, le32-back f.reason k)

pub tick-in-is : (w a : ℕ) (f : FailureParts) (t : TickParts) → t.tick < 18446744073709551616 → tick_in (link_raw w a f t) ≡ t
unfolding tick_in
tick-in-is w a f t h = rw (le64-back t.tick h)

-- ---- the state

take-front : (s : State) → take 7 (state_bytes s) ≡ front_bytes s.sdpcm s.scan
unfolding state_bytes front_bytes
take-front s = refl

take-pending : (s : State) → take 14 (drop 7 (state_bytes s)) ≡ pending_bytes s.pending
unfolding state_bytes front_bytes pending_bytes
take-pending s = refl

take_link : (s : State) → take 20 (drop 21 (state_bytes s)) ≡ link_bytes s.link
unfolding state_bytes front_bytes pending_bytes link_bytes
take_link s = refl

pub length-state : (s : State) → length (state_bytes s) ≡ 41
unfolding state_bytes front_bytes pending_bytes link_bytes
length-state s = refl

sdpcm-back : (s : Sdpcm) (m : ScanMarks) → sdpcm_in (front_bytes s m) ≡ s
unfolding sdpcm_in front_bytes
sdpcm-back s m = rw bit-back

marks-back : (s : Sdpcm) (m : ScanMarks) → marks_in (front_bytes s m) ≡ m
unfolding marks_in front_bytes
marks-back s m = rw (bit-back m.scan_done, bit-back m.scan_in_progress)

pub state-back : (s : State) → pending_in (pending_bytes s.pending) ≡ s.pending → link_in (link_bytes s.link) ≡ s.link → state_in (state_bytes s) ≡ s
unfolding state_in
state-back s h k = rw (take-front s, take-pending s, take_link s, h, k, sdpcm-back, marks-back)
