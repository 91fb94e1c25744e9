-- A step of an exchange on a session's bytes is the tree's; the turns of its run.
use Prim.Native.Nat.{ℕ, ◌+◌, ◌-◌, ◌<◌, ◌≤◌}
use mathlib.Core.Path.{◌≡◌, refl, sym, ap, ◌∙◌}
use mathlib.Core.Bool.{Bool, true, false, true≢false}
use mathlib.Core.List.{List}
use native.Mathlib.Omega.{arith}
use lib.ListN.{length, drop}
use Rattle.slices.specs.Pick.{pick}
use Rattle.wlan.specs.declared.BusOp.{BusOp}
use Rattle.definition.specs.Bus.{Bytes, Ans, Place, fault, val}
use Rattle.definition.specs.Prog.{World, world, Prog}
use Rattle.definition.specs.Poll.{Result}
use Rattle.definition.specs.Run.{End}
use Rattle.handling.specs.Handle.{list_heard}
use Rattle.device.specs.Meaning.{op_in, asking, told, landing, InRange, arrival_at}
use Rattle.send.specs.Meaning.{laid_header}
use Rattle.ioctl.specs.declared.IoctlPoint.{IoctlPoint}
use Rattle.ioctl.specs.Ioctl.{ioctl_op, ioctl_answer}
use Rattle.control.specs.declared.CallNext.{CallNext}
use Rattle.control.specs.declared.CallPoint.{CallPoint}
use Rattle.control.specs.declared.CallStep.{CallStep}
use Rattle.control.specs.declared.Stage.{Stage}
use Rattle.control.specs.Begin.{call_answer}
use Rattle.control.specs.Exchange.{exchange_next, exchange_answer}
use Rattle.control.specs.Stages.{request_at, request_len}
use Rattle.control.specs.Steps.{call_op}
use Rattle.control.specs.Meaning.{Args, lens_of, call_tree, call_shown, Kc, laid_before, laid_request, laid_all, list_at, secret_at}
use Rattle.control.proofs.Bridge.{call-is}
use Rattle.control.proofs.StageBridge.{Modest}
use Rattle.effects.specs.Answer.{is_wait}
use Rattle.session_bytes.specs.declared.session.Session.{Session}
use Rattle.session_bytes.specs.Session.{is_session, session_in}
use Rattle.going.specs.Onward.{go}
use Rattle.going.proofs.Going.{go-unroll}
use Rattle.asking.specs.declared.Asked.{Asked}
use Rattle.asking.specs.declared.Back.{Back}
use Rattle.asking.specs.Asking.{Asks, asked, followed, UnlessBack}
use Rattle.reply_points.specs.declared.IoctlNow.{IoctlNow}
use Rattle.reply_points.specs.declared.IoctlNowKind.{IoctlNowKind}
use Rattle.reply_points.specs.ReplyPoints as reply
use Rattle.replying.specs.Replying.{Replies}
use Rattle.plans.specs.Plans as plan
use Rattle.turning.specs.Turning as turning
use Rattle.turning.proofs.Laws as law
use Rattle.ioctl_call.specs.declared.IoctlTurned.{IoctlTurned}
use Rattle.ioctl_call.specs.IoctlCall as to
use Rattle.std.specs.Prelude.{None, Ok, Err}
use Rattle.wlan.specs.Results.{BusAnswer, fault_at}

-- ---- the bridge

-- c: the work buffer with what the answer left; b: the session's bytes before the step
module _ (a : Args) (m : Modest a) (q : CallPoint) (y : Ans) (b₀ c : Bytes) (i : InRange (call_op q) y) (hb : c ≡ landing (call_op q) y b₀) (e : World) (rec log : List ℕ) (pos len : ℕ) (b : List ℕ) (x : BusAnswer) (hx : x ≡ told y) where
  abbrev pub step_of : CallStep
  step_of = call_answer a.job (lens_of a) (session_in b).st q x (arrival_at (call_op q) c (session_in b).st.sdpcm)

  pub shown-left : go e (drop pos rec) log len (call_shown a step_of (arrival_at (call_op q) c (session_in b).st.sdpcm).event (world (session_in b).st c (session_in b).list)) ≡ go e (drop pos rec) log len (Kc a q y (turning.world_in b b₀))
  shown-left =
      ap (λ t. go e (drop pos rec) log len t) (rw (hx, hb) (sym (call-is a m q y (turning.world_in b b₀) i)))
      ∙ go-unroll e (drop pos rec) log len (Kc a q y (turning.world_in b b₀))

-- a step of an exchange; n: how long its payload is
stepped : (a : Args) (g : Stage) (p : IoctlPoint) (y : Ans) (b₀ c : Bytes) → InRange (ioctl_op p) y → c ≡ landing (ioctl_op p) y b₀ → (e : World) (rec log : List ℕ) (pos len : ℕ) (b : List ℕ) (x : BusAnswer) → x ≡ told y
    → {n : ℕ} → to.Fits a g n → {u v d : List ℕ} {f : Bytes} {r : IoctlNow}
    → Replies u v b d c f r (arrival_at (ioctl_op p) c (session_in b).st.sdpcm).event (ioctl_answer (session_in b).st n p x (arrival_at (ioctl_op p) c (session_in b).st.sdpcm))
    → to.Answered a g e (go e (drop pos rec) log len (Kc a (CallPoint.Exchange g p) y (turning.world_in b b₀))) rec r pos len log d f
unfolding call_op call_answer exchange_answer
stepped a g p y b₀ c i hb e rec log pos len b x hx {n} h {u} {v} {d} {f} {r} k₀ =
    let s = ioctl_answer (session_in b).st (request_len (request_at a.job g) (lens_of a)) p x (arrival_at (ioctl_op p) c (session_in b).st.sdpcm) in
    let k : Replies u v b d c f r (arrival_at (ioctl_op p) c (session_in b).st.sdpcm).event s = rw h.len at k₀ in
    record {
      heard = s.heard;
      header = reply.header_in s.next;
      event = (arrival_at (ioctl_op p) c (session_in b).st.sdpcm).event;
      under = c;
      list = (session_in b).list;
      laid = rw k.next k.laid;
      listed = ap (λ (z : Session). z.list) k.held.back;
      on = rw (ap (λ (z : Session). z.st) k.held.back, k.next) (shown-left a h.modest (CallPoint.Exchange g p) y b₀ c i hb e rec log pos len b x hx);
    }

-- a wait has no fault
pub no-wait : (op : BusOp) (y : Ans) (p : ℕ) → InRange op y → Err (fault_at p) ≡ told y → is_wait op ≡ false
unfolding InRange told is_wait
no-wait BusOp.ReadInterrupt y p i h = refl
no-wait BusOp.ReadStatus y p i h = refl
no-wait (BusOp.ReadPacket n) y p i h = refl
no-wait BusOp.ReadClock y p i h = refl
no-wait BusOp.ReadTick y p i h = refl
no-wait (BusOp.WritePacket n) y p i h = refl
no-wait (BusOp.WriteInterrupt v) y p i h = refl
no-wait BusOp.FrameControl y p i h = refl
no-wait (BusOp.Wait ns) (fault x) p i h = absurd i
no-wait (BusOp.Wait ns) (val v T) p i h = absurd (let z : ◌≡◌ {A = ℕ} 0 1 = cc in omega arith)

-- ---- roll-back

module _ (a : Args) (g : Stage) (e : World) (x : End) (rec : List ℕ) (t : IoctlTurned) (log b : List ℕ) (buf : Bytes) where
  abbrev Goes : Type 0
  Goes = to.Answered a g e x rec t.now t.asked.pos t.asked.len log b buf

  abbrev Returns : Type 0
  Returns = followed e log t.asked.len x t.asked.back ≡ x

  pub back-stood : turning.is_back t.asked.back ≡ true → Returns → to.Stood a g e x rec t log b buf
  back-stood h k = by t.asked.back Goes Returns h k
    where
      by : (c : Back) (p q : Type 0) → turning.is_back c ≡ true → q → UnlessBack p q c
      by Back.No p q i y = absurd (true≢false (sym i))
      by Back.Unrecorded p q i y = y
      by Back.WrongAnswer p q i y = y
      by Back.LogFull p q i y = y

  pub on-stood : turning.is_back t.asked.back ≡ false → Goes → to.Stood a g e x rec t log b buf
  on-stood h k = by t.asked.back Goes Returns h k
    where
      by : (c : Back) (p q : Type 0) → turning.is_back c ≡ false → p → UnlessBack p q c
      by Back.No p q i y = y
      by Back.Unrecorded p q i y = absurd (true≢false i)
      by Back.WrongAnswer p q i y = absurd (true≢false i)
      by Back.LogFull p q i y = absurd (true≢false i)

  pub stood_back : turning.is_back t.asked.back ≡ true → to.Stood a g e x rec t log b buf → Returns
  stood_back h k = by t.asked.back Goes Returns h k
    where
      by : (c : Back) (p q : Type 0) → turning.is_back c ≡ true → UnlessBack p q c → q
      by Back.No p q i y = absurd (true≢false (sym i))
      by Back.Unrecorded p q i y = y
      by Back.WrongAnswer p q i y = y
      by Back.LogFull p q i y = y

  pub stood_on : turning.is_back t.asked.back ≡ false → to.Stood a g e x rec t log b buf → Goes
  stood_on h k = by t.asked.back Goes Returns h k
    where
      by : (c : Back) (p q : Type 0) → turning.is_back c ≡ false → UnlessBack p q c → p
      by Back.No p q i y = y
      by Back.Unrecorded p q i y = absurd (true≢false i)
      by Back.WrongAnswer p q i y = absurd (true≢false i)
      by Back.LogFull p q i y = absurd (true≢false i)

same_back : (e : World) (log : List ℕ) (len : ℕ) (p q : End) (c : Back) → turning.is_back c ≡ true → followed e log len p c ≡ followed e log len q c
same_back e log len p q Back.No h = absurd (true≢false (sym h))
same_back e log len p q Back.Unrecorded h = refl
same_back e log len p q Back.WrongAnswer h = refl
same_back e log len p q Back.LogFull h = refl

-- the run that asked comes to it
pub backed : (op : BusOp) {rec log log' : List ℕ} {pos len : ℕ} {b c : Bytes} (a : Asked) → Asks op rec log log' pos len b c a → (e : World) (s : Place) (k : Ans → Prog Result) → turning.is_back a.back ≡ true
    → let x = go e (drop pos rec) log len (asking (op_in op s b) k) in followed e log' a.len x a.back ≡ x
unfolding asked
backed op {rec} {log} {log'} {pos} {len} a h e s k i = same_back e log' a.len _ _ a.back i ∙ h.on e s k

-- ---- after an operation of an exchange

module _ (x : Args) (g : Stage) {n : ℕ} (f : to.Fits x g n) (p : IoctlPoint) {rec log₀ log : List ℕ} {pos len : ℕ} {b c : Bytes} (a : Asked) (k : Asks (ioctl_op p) rec log₀ log pos len b c a) (e : World) (s d : List ℕ) (c₁ : Bytes) (r : IoctlTurned) (w : r.asked ≡ a) where
  abbrev Comes : Type 0
  Comes = to.Stood x g e (go e (drop pos rec) log₀ len (call_tree x (CallNext.Ask (CallPoint.Exchange g p)) (turning.world_in s b))) rec r log d c₁

  abbrev Steps : List ℕ → List ℕ → BusAnswer → Type 0
  Steps u v y = Replies u v s d c c₁ r.now (arrival_at (ioctl_op p) c (session_in s).st.sdpcm).event (ioctl_answer (session_in s).st n p y (arrival_at (ioctl_op p) c (session_in s).st.sdpcm))

  pub back-comes : turning.is_back a.back ≡ true → Comes
  unfolding call_tree call_op
  back-comes i = back-stood x g e _ rec r log d c₁ (rw w i) (rw w (backed (ioctl_op p) a k e (secret_at x (CallPoint.Exchange g p)) (λ y. Kc x (CallPoint.Exchange g p) y (turning.world_in s b)) i))

  pub value-comes : turning.is_back a.back ≡ false → a.fault ≡ false → {u v : List ℕ} → Steps u v (Ok a.value) → Comes
  unfolding call_tree call_op
  value-comes i l q =
      on-stood x g e _ rec r log d c₁ (rw w i)
      (rw w (law.asked-value (ioctl_op p) a k e (secret_at x (CallPoint.Exchange g p)) (λ y. Kc x (CallPoint.Exchange g p) y (turning.world_in s b)) s
      (λ (z : End). to.Answered x g e z rec r.now a.pos a.len log d c₁) (law.not_back a.back i) l
      (λ y hv j hb. stepped x g p y b c j hb e rec log a.pos a.len s (Ok a.value) hv f q)))

  pub fault-comes : turning.is_back a.back ≡ false → a.fault ≡ true → {u v : List ℕ} → (is_wait (ioctl_op p) ≡ false → a.value < 256 → Steps u v (Err (fault_at a.value))) → Comes
  unfolding call_tree call_op
  fault-comes i l q =
      on-stood x g e _ rec r log d c₁ (rw w i)
      (rw w (law.asked-faulted (ioctl_op p) a k e (secret_at x (CallPoint.Exchange g p)) (λ y. Kc x (CallPoint.Exchange g p) y (turning.world_in s b)) s
      (λ (z : End). to.Answered x g e z rec r.now a.pos a.len log d c₁) (law.not_back a.back i) l
      (λ y hv m j hb. stepped x g p y b c j hb e rec log a.pos a.len s (Err (fault_at a.value)) hv f (q (no-wait (ioctl_op p) y a.value j hv) m))))

-- ---- a turn

pub asks-on : {a : Args} {g : Stage} {e : World} {x : End} {rec : List ℕ} (n : IoctlNow) {pos len : ℕ} {log b : List ℕ} {buf : Bytes} → n.kind ≡ IoctlNowKind.Ask → to.Answered a g e x rec n pos len log b buf
    → to.asked_at a g e rec log pos len n.at b buf ≡ x
unfolding exchange_next reply.next_by reply.header_in laid_all laid_request laid_before list_at
asks-on n h k = rw (k.laid, k.listed, h) (rw h at k.on)

-- an exchange that has not begun to ask
pub begun-on : {a : Args} {g : Stage} {e : World} {rec : List ℕ} (n : IoctlNow) {pos len : ℕ} {log b : List ℕ} {buf : Bytes} → n.kind ≡ IoctlNowKind.Ask
    → to.Answered a g e (to.asked_at a g e rec log pos len n.at b buf) rec n pos len log b buf
unfolding exchange_next reply.next_by reply.header_in laid_all laid_request laid_before laid_header list_at list_heard
begun-on {a} {g} {e} {rec} n {pos} {len} {log} {b} {buf} h =
    record {
      heard = false;
      header = None;
      event = (arrival_at BusOp.ReadClock buf (session_in b).st.sdpcm).event;
      under = buf;
      list = (session_in b).list;
      laid = rw h refl;
      listed = refl;
      on = rw h refl;
    }

-- ---- the loop of an exchange

pick-on : (b d : Bool) → pick b false d ≡ true → (b ≡ false) × (d ≡ true)
pick-on true d h = absurd (true≢false (sym h))
pick-on false d h = (refl, h)

is-asks : (k : IoctlNowKind) → plan.is_ask k ≡ true → k ≡ IoctlNowKind.Ask
is-asks IoctlNowKind.Ask h = refl
is-asks IoctlNowKind.Done h = absurd (true≢false (sym h))
is-asks IoctlNowKind.Refused h = absurd (true≢false (sym h))

pub goes_on : (t : IoctlTurned) → to.on_of t ≡ true → (turning.is_back t.asked.back ≡ false) × (t.now.kind ≡ IoctlNowKind.Ask)
goes_on t h = let k = pick-on (turning.is_back t.asked.back) (plan.is_ask t.now.kind) h in (k.0, is-asks t.now.kind k.1)

pub is-over : (t : IoctlTurned) → to.on_of t ≡ false → turning.is_back t.asked.back ≡ false → plan.is_ask t.now.kind ≡ false
is-over t h k = rw k at h

-- what the loop began with comes to what it stands at now; n: how long the payload is
pub record Going (n : ℕ) (rec : List ℕ) (s₀ u₀ log₀ : List ℕ) (b₀ : Bytes) (t₀ : IoctlTurned) (s u log : List ℕ) (b : Bytes) (t : IoctlTurned) : Type 0 where
  pub log-len : length log ≡ length log₀
  pub buf-len : length b ≡ length b₀
  pub session-len : length s ≡ length s₀
  pub undo-len : length u ≡ length u₀
  pub held : is_session s ≡ true
  pub kept : turning.KeptAll u₀ u s₀ s b₀ b
  pub asks : t.on ≡ to.on_of t
  pub room : turning.is_back t.asked.back ≡ false → (t₀.asked.len ≤ t.asked.len) × (t.asked.len ≤ length log₀)
  pub grew : t.on ≡ false → turning.is_back t.asked.back ≡ false → t₀.asked.len < t.asked.len
  pub turns : (a : Args) (g : Stage) → to.Fits a g n → (e : World) (x : End) → to.Stood a g e x rec t₀ log₀ s₀ b₀ → to.Stood a g e x rec t log s b

-- each turn takes a word of the log or more
abbrev pub words : List ℕ → IoctlTurned → ℕ
words log t = pick t.on (1 + (length log - t.asked.len)) 0

pub words-less : (log : List ℕ) (r t : IoctlTurned) → t.on ≡ true → t.asked.len ≤ length log → (r.on ≡ true → (t.asked.len < r.asked.len) × (r.asked.len ≤ length log)) → words log r < words log t
words-less log r t h l g = rw h (by r.on refl)
  where
    by : (o : Bool) → r.on ≡ o → pick o (1 + (length log - r.asked.len)) 0 < 1 + (length log - t.asked.len)
    by true k = omega (arith, (g k).0, (g k).1)
    by false k = omega arith
