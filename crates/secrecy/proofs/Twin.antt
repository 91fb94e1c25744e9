-- Two worlds that differ only in secret bytes of the work buffer: one state, one scan list, two buffers.
use mathlib.Core.Path.{◌≡◌}
use mathlib.Core.Bool.{false, true≢false}
use Prim.Native.Nat.{ℕ, ◌+◌, ◌≤◌, ◌<◌}
use native.Mathlib.Omega.{arith}
use lib.ListN.{length}
use Rattle.slices.specs.Over.{over}
use Rattle.wlan.specs.declared.Pending.{Pending}
use Rattle.wlan.specs.declared.ScanList.{ScanList}
use Rattle.wlan.specs.declared.State.{State}
use Rattle.definition.specs.Bus.{Bytes}
use Rattle.definition.specs.Prog.{World, world}
use Rattle.definition.specs.Join.{frame_waits, reply_waits}
use Rattle.secrecy.proofs.Bufs.{Alike, Part, over-size, over-alike, over-keeps, over-makes}
use Rattle.std.specs.Prelude.{Option, Some, None}
use Rattle.wlan.specs.declared.PendingIoctlResp.{PendingIoctlResp}
use Rattle.wlan.specs.declared.PendingBuf.{PendingBuf}

-- what waits is alike in both
abbrev pub FrameAlike : Option PendingBuf → Bytes → Bytes → Type 0
FrameAlike None b b' = Unit {0}
FrameAlike (Some f) b b' = Part f.offset f.len b b'

abbrev pub ReplyAlike : Option PendingIoctlResp → Bytes → Bytes → Type 0
ReplyAlike None b b' = Unit {0}
ReplyAlike (Some r) b b' = Part r.buf.offset r.buf.len b b'

pub record Waiting (p : Pending) (b b' : Bytes) : Type 0 where
  pub frame : FrameAlike p.rx b b'
  pub reply : ReplyAlike p.ioctl_resp b b'

pub record Twin : Type 0 where
  pub st : State
  pub list : ScanList
  pub one : Bytes
  pub two : Bytes
  pub size : length one ≡ length two
  pub front : (i : ℕ) → i < 28 → Alike one two i
  pub waiting : Waiting st.pending one two

abbrev pub left : Twin → World
left τ = world τ.st τ.one τ.list

abbrev pub right : Twin → World
right τ = world τ.st τ.two τ.list

-- the buffers are alike at every place of S
abbrev pub On : (ℕ → Type 0) → Twin → Type 0
On S τ = (i : ℕ) → S i → Alike τ.one τ.two i

-- ---- changes

-- buffers that are alike wherever they were
abbrev pub Better : Bytes → Bytes → Bytes → Bytes → Type 0
Better b b' c c' = (i : ℕ) → Alike b b' i → Alike c c' i

pub frame-better : (x : Option PendingBuf) (b b' c c' : Bytes) → Better b b' c c' → FrameAlike x b b' → FrameAlike x c c'
frame-better None b b' c c' g h = tt
frame-better (Some f) b b' c c' g h = λ i u v. g i (h i u v)

pub reply-better : (x : Option PendingIoctlResp) (b b' c c' : Bytes) → Better b b' c c' → ReplyAlike x b b' → ReplyAlike x c c'
reply-better None b b' c c' g h = tt
reply-better (Some r) b b' c c' g h = λ i u v. g i (h i u v)

-- the same bytes laid into both
unfoldable pub twin-over : ℕ → Bytes → Twin → Twin
twin-over at s τ =
    record {
      st = τ.st;
      list = τ.list;
      one = over τ.one at s;
      two = over τ.two at s;
      size = over-size τ.one τ.two at s s τ.size;
      front = λ i h. g i (τ.front i h);
      waiting = record { frame = frame-better τ.st.pending.rx _ _ _ _ g τ.waiting.frame; reply = reply-better τ.st.pending.ioctl_resp _ _ _ _ g τ.waiting.reply };
    }
  where
    g : Better τ.one τ.two (over τ.one at s) (over τ.two at s)
    g i h = over-keeps τ.one τ.two at s i τ.size h

-- another state and list; what waits is told
abbrev pub twin-moved : (τ : Twin) (s : State) (l : ScanList) → Waiting s.pending τ.one τ.two → Twin
twin-moved τ s l w = record { st = s; list = l; one = τ.one; two = τ.two; size = τ.size; front = τ.front; waiting = w }

-- nothing waits
pub frame-none : (x : Option PendingBuf) (b b' : Bytes) → frame_waits x ≡ false → FrameAlike x b b'
unfolding frame_waits
frame-none None b b' e = tt
frame-none (Some f) b b' e = absurd (true≢false e)

pub reply-none : (x : Option PendingIoctlResp) (b b' : Bytes) → reply_waits x ≡ false → ReplyAlike x b b'
unfolding reply_waits
reply-none None b b' e = tt
reply-none (Some r) b b' e = absurd (true≢false e)

-- other bytes laid into each from 28 on, while nothing waits
unfoldable pub twin-key : (s s' : Bytes) (τ : Twin) → length s ≡ length s' → frame_waits τ.st.pending.rx ≡ false → reply_waits τ.st.pending.ioctl_resp ≡ false → Twin
twin-key s s' τ e f r =
    record {
      st = τ.st;
      list = τ.list;
      one = over τ.one 28 s;
      two = over τ.two 28 s';
      size = over-size τ.one τ.two 28 s s' τ.size;
      front = λ i h. over-alike τ.one τ.two 28 s s' i τ.size e (λ u. τ.front i h) (λ u v. absurd (omega arith));
      waiting = record { frame = frame-none τ.st.pending.rx _ _ f; reply = reply-none τ.st.pending.ioctl_resp _ _ r };
    }

pub over-on : (S : ℕ → Type 0) (at : ℕ) (s : Bytes) (τ : Twin) → On S τ → On S (twin-over at s τ)
unfolding twin-over
over-on S at s τ h i u = over-keeps τ.one τ.two at s i τ.size (h i u)

pub over-made : (at : ℕ) (s : Bytes) (τ : Twin) (i : ℕ) → at ≤ i → i < at + length s → Alike (twin-over at s τ).one (twin-over at s τ).two i
unfolding twin-over
over-made at s τ i h l = over-makes τ.one τ.two at s i τ.size h l
