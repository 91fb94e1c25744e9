-- A step of a call's exchanges on a session's bytes is the tree's; the turns of its run.
use Prim.Native.Nat.{ℕ, ◌+◌, ◌-◌, ◌<◌, ◌≤◌}
use mathlib.Core.Path.{◌≡◌, refl, ap, ◌∙◌}
use mathlib.Core.Bool.{Bool, true, false}
use mathlib.Core.List.{List, [], ◌∷◌}
use native.Mathlib.Omega.{arith}
use lib.ListN.{length, drop}
use Rattle.slices.specs.Pick.{pick}
use Rattle.wlan.specs.declared.DriverError.{DriverError}
use Rattle.wlan.specs.declared.Refusal.{Refusal}
use Rattle.wlan.specs.declared.State.{State}
use Rattle.wlan.specs.Outcome.{error_value}
use Rattle.definition.specs.Bus.{Bytes, Ans}
use Rattle.definition.specs.Prog.{World}
use Rattle.definition.specs.Run.{End}
use Rattle.handling.specs.Handle.{list_heard}
use Rattle.device.specs.declared.Arrival.{Arrival}
use Rattle.device.specs.Meaning.{told, landing, InRange, arrival_at}
use Rattle.send.specs.Meaning.{laid_header}
use Rattle.control.specs.declared.Before.{Before}
use Rattle.control.specs.declared.CallNext.{CallNext}
use Rattle.control.specs.declared.CallPoint.{CallPoint}
use Rattle.control.specs.declared.Ending.{Ending}
use Rattle.control.specs.declared.Lens.{Lens}
use Rattle.control.specs.declared.Stage.{Stage}
use Rattle.control.specs.Begin.{call_answer}
use Rattle.control.specs.Exchange.{exchange_next}
use Rattle.control.specs.Steps.{call_op}
use Rattle.control.specs.Meaning.{Args, lens_of, call_tree, Kc, laid_before, list_at, secret_at, success_of}
use Rattle.control.proofs.StageBridge.{Modest}
use Rattle.session_bytes.specs.Session.{is_session, session_in}
use Rattle.going.specs.Onward.{go}
use Rattle.asking.specs.declared.Asked.{Asked}
use Rattle.asking.specs.Asking.{Asks, followed}
use Rattle.reply_points.specs.declared.IoctlNow.{IoctlNow}
use Rattle.reply_points.specs.ReplyPoints as reply
use Rattle.exchanging.specs.declared.now.CallKind.{CallKind}
use Rattle.exchanging.specs.declared.now.CallNow.{CallNow}
use Rattle.plans.specs.declared.PauseKind.{PauseKind}
use Rattle.plans.specs.declared.Plan.{Plan}
use Rattle.plans.specs.Plans as plan
use Rattle.exchanging.specs.Exchanging as at
use Rattle.run_end.specs.declared.RunEnd.{RunEnd}
use Rattle.run_end.specs.RunEnd as ending
use Rattle.turning.specs.Turning as turning
use Rattle.turning.proofs.Laws as law
use Rattle.ioctl_call.specs.IoctlCall as ioctl
use Rattle.ioctl_call.proofs.Laws.{shown-left}
use Rattle.exchange_call.specs.declared.CallTurned.{CallTurned}
use Rattle.exchange_call.specs.ExchangeCall as to
use Rattle.std.specs.Prelude.{Option, Ok, Err}
use Rattle.send.specs.declared.Header.{Header}
use Rattle.wlan.specs.Results.{BusAnswer, fault_at}

-- ---- an operation outside an exchange

-- c: the work buffer with what the answer left; b: the session's bytes before the step
module _ (a : Args) (m : Modest a) (q : CallPoint) (y : Ans) (b₀ c : Bytes) (i : InRange (call_op q) y) (hb : c ≡ landing (call_op q) y b₀) (e : World) (rec log : List ℕ) (pos len : ℕ) (b : List ℕ) (x : BusAnswer) (hx : x ≡ told y) where
  plans : (f : Plan) → call_answer a.job (lens_of a) (session_in b).st q x (arrival_at (call_op q) c (session_in b).st.sdpcm) ≡ plan.planned f a.job (lens_of a) (session_in b).st false Before.None → to.Plans a e (go e (drop pos rec) log len (Kc a q y (turning.world_in b b₀))) rec f pos len log b c
  unfolding laid_before list_heard
  plans f k =
      record {
        heard = false;
        before = Before.None;
        event = (arrival_at (call_op q) c (session_in b).st.sdpcm).event;
        under = c;
        list = (session_in b).list;
        laid = refl;
        listed = refl;
        on = rw (← k) (shown-left a m q y b₀ c i hb e rec log pos len b x hx);
      }

-- ---- a call's end

module _ (a : Args) (e : World) (ws log b : List ℕ) (buf : Bytes) (len : ℕ) where
  pub gives-ends : (x : Ending) → ending.SuccessFits (success_of x buf) → turning.Ends e (go e ws log len (call_tree a (CallNext.Ended x) (turning.world_in b buf))) (ending.end_by (Ok (success_of x buf)) len) log b buf
  unfolding call_tree
  gives-ends x f = law.returned e _ ws log b buf len refl f

  pub stops : (x : DriverError) → error_value x < 256 → turning.Ends e (go e ws log len (call_tree a (CallNext.Refused x) (turning.world_in b buf))) (ending.end_by (Err (Refusal.Driver x)) len) log b buf
  unfolding call_tree
  stops x f = law.stopped e x ws log b buf len f

-- ---- a turn

pub planned-on : {a : Args} {g : Stage} {e : World} {x : End} {rec : List ℕ} (n : IoctlNow) {pos len : ℕ} {log b : List ℕ} {buf : Bytes} (c : Bytes) (f : Plan) → ioctl.Answered a g e x rec n pos len log b buf
    → ((l : Lens) (s : State) (h : Bool) (z : Option Header) → exchange_next a.job l g s h (reply.next_of n z) ≡ plan.planned f a.job l s h (plan.before_in (reply.next_of n z)))
    → ((z : Option Header) (c₀ : Bytes) → buf ≡ laid_header (reply.header_in (reply.next_of n z)) c₀ → c ≡ laid_before (plan.before_in (reply.next_of n z)) c₀)
    → to.Plans a e x rec f pos len log b c
planned-on {a} {g} {e} {x} {rec} n {pos} {len} {log} {b} {buf} c f k p q =
    record {
      heard = k.heard;
      before = plan.before_in (reply.next_of n k.header);
      event = k.event;
      under = k.under;
      list = k.list;
      laid = q k.header k.under k.laid;
      listed = k.listed;
      on = rw (← p (lens_of a) (session_in b).st k.heard k.header) k.on;
    }

pub act-on : {a : Args} {e : World} {x : End} {rec : List ℕ} {f : Plan} {pos len : ℕ} {log b : List ℕ} {buf : Bytes} (k : to.Plans a e x rec f pos len log b buf) {u v d : List ℕ} {c : Bytes} {n : CallNow}
    → at.Acts a u v b d k.under buf c n k.heard (plan.planned f a.job (lens_of a) (session_in b).st k.heard k.before)
    → go e (drop pos rec) log len (call_tree a (at.next_of n) (turning.world_in d c)) ≡ x
unfolding list_at
act-on {a} {e} {x} {rec} {f} {pos} {len} {log} {b} {buf} k q =
    ap (λ t. go e (drop pos rec) log len t) (rw (q.held.back, q.laid, q.next, q.heard, k.listed) refl) ∙ k.on

pub on-turns : (a : Args) (e : World) (x : End) (rec log b : List ℕ) (buf : Bytes) (r : CallTurned) (f : Plan) (pos len : ℕ) → r.on ≡ true → r.plan ≡ f → r.pos ≡ pos → r.end.len ≡ len → to.Plans a e x rec f pos len log b buf
    → to.Turns a e x rec r log b buf
on-turns a e x rec log b buf r f pos len h k i l p = rw (h, k, i, l) p

pub over-turns : (a : Args) (e : World) (x : End) (rec log b : List ℕ) (buf : Bytes) (r : CallTurned) {end : RunEnd} → r.on ≡ false → r.end ≡ end → turning.Ends e x end log b buf → to.Turns a e x rec r log b buf
over-turns a e x rec log b buf r h k s = rw (h, k) s

-- ---- after an operation outside an exchange

module _ (x : Args) (m : Modest x) (q : CallPoint) {rec log₀ log : List ℕ} {pos len : ℕ} {buf : Bytes} (a : Asked) (k : Asks (call_op q) rec log₀ log pos len buf buf a) (e : World) (b : List ℕ) (r : CallTurned) where
  abbrev Ends : Type 0
  Ends = to.Turns x e (go e (drop pos rec) log₀ len (call_tree x (CallNext.Ask q) (turning.world_in b buf))) rec r log b buf

  abbrev Follows : Plan → BusAnswer → Type 0
  Follows f y = (z : Arrival) → call_answer x.job (lens_of x) (session_in b).st q y z ≡ plan.planned f x.job (lens_of x) (session_in b).st false Before.None

  abbrev Onward : Plan → Type 0
  Onward f = (r.on ≡ true) × (r.plan ≡ f) × (r.pos ≡ a.pos) × (r.end.len ≡ a.len)

  pub back-turns : (end : RunEnd) → r.on ≡ false → r.end ≡ end → ((on : End) → turning.Ends e (followed e log a.len on a.back) end log b buf) → Ends
  unfolding call_tree
  back-turns end o w h = over-turns x e _ rec log b buf r o w (law.asked-back (call_op q) a k e (secret_at x q) (λ y. Kc x q y (turning.world_in b buf)) b end h)

  value-turns : turning.is_back a.back ≡ false → a.fault ≡ false → (f : Plan) → Onward f → Follows f (Ok a.value) → Ends
  unfolding call_tree
  value-turns i l f o h =
      on-turns x e _ rec log b buf r f a.pos a.len o.0 o.1 o.2 o.3
      (law.asked-value (call_op q) a k e (secret_at x q) (λ y. Kc x q y (turning.world_in b buf)) b (λ (z : End). to.Plans x e z rec f a.pos a.len log b buf) (law.not_back a.back i) l
      (λ y hv j hb. plans x m q y buf buf j hb e rec log a.pos a.len b (Ok a.value) hv f (h _)))

  fault-turns : turning.is_back a.back ≡ false → a.fault ≡ true → (f : Plan) → Onward f → (a.value < 256 → Follows f (Err (fault_at a.value))) → Ends
  unfolding call_tree
  fault-turns i l f o h =
      on-turns x e _ rec log b buf r f a.pos a.len o.0 o.1 o.2 o.3
      (law.asked-faulted (call_op q) a k e (secret_at x q) (λ y. Kc x q y (turning.world_in b buf)) b (λ (z : End). to.Plans x e z rec f a.pos a.len log b buf) (law.not_back a.back i) l
      (λ y hv n j hb. plans x m q y buf buf j hb e rec log a.pos a.len b (Err (fault_at a.value)) hv f (h n _)))

  pub told-turns : turning.is_back a.back ≡ false → (f : Plan) → Onward f → (a.fault ≡ true → a.value < 256 → Follows f (Err (fault_at a.value))) → (a.fault ≡ false → Follows f (Ok a.value)) → Ends
  told-turns i f o hf hv = by a.fault refl
    where
      by : (l : Bool) → a.fault ≡ l → Ends
      by true l = fault-turns i l f o (hf l)
      by false l = value-turns i l f o (hv l)

-- ---- the clock, the tick and the waits

pub waits : (p : PauseKind) (ns : ℕ) (k : CallKind) → (k ≡ CallKind.Clock → ⊥) → (k ≡ CallKind.Tick → ⊥) → to.point_by k p ns ≡ CallPoint.Pause (plan.pause_by p ns)
unfolding to.point_by
waits p ns CallKind.Exchange a b = refl
waits p ns CallKind.Pause a b = refl
waits p ns CallKind.Clock a b = absurd (a refl)
waits p ns CallKind.Tick a b = absurd (b refl)
waits p ns CallKind.Ended a b = refl
waits p ns CallKind.Refused a b = refl

pub asks : (n : CallNow) (k : CallKind) → (k ≡ CallKind.Exchange → ⊥) → (k ≡ CallKind.Ended → ⊥) → (k ≡ CallKind.Refused → ⊥) → at.next_by k n ≡ CallNext.Ask (to.point_by k n.pause n.ns)
unfolding to.point_by at.next_by
asks n CallKind.Exchange a b d = absurd (a refl)
asks n CallKind.Pause a b d = refl
asks n CallKind.Clock a b d = refl
asks n CallKind.Tick a b d = refl
asks n CallKind.Ended a b d = absurd (b refl)
asks n CallKind.Refused a b d = absurd (d refl)

-- ---- the loop of a call

pub record Running (a : Args) (rec : List ℕ) (s₀ u₀ log₀ : List ℕ) (b₀ : Bytes) (t₀ : CallTurned) (s u log : List ℕ) (b : Bytes) (t : CallTurned) : Type 0 where
  pub log-len : length log ≡ length log₀
  pub buf-len : length b ≡ length b₀
  pub session-len : length s ≡ length s₀
  pub undo-len : length u ≡ length u₀
  pub held : is_session s ≡ true
  pub kept : turning.KeptAll u₀ u s₀ s b₀ b
  pub room : t.on ≡ true → t.end.len ≤ length log₀
  pub turns : (e : World) (x : End) → to.Turns a e x rec t₀ log₀ s₀ b₀ → to.Turns a e x rec t log s b

abbrev pub left : List ℕ → CallTurned → ℕ
left log t = pick t.on (1 + (length log - t.end.len)) 0

pub left_less : (log : List ℕ) (r t : CallTurned) → t.on ≡ true → t.end.len ≤ length log → (r.on ≡ true → (t.end.len < r.end.len) × (r.end.len ≤ length log)) → left log r < left log t
left_less log r t h l g = rw h (by r.on refl)
  where
    by : (o : Bool) → r.on ≡ o → pick o (1 + (length log - r.end.len)) 0 < 1 + (length log - t.end.len)
    by true k = omega (arith, (g k).0, (g k).1)
    by false k = omega arith
