-- A poll's step on a session's bytes is the tree's.
use Prim.Native.Nat.{ℕ, ◌+◌, ◌-◌, ◌<◌, ◌≤◌}
use mathlib.Core.Path.{◌≡◌, refl, sym, ap, ◌∙◌}
use mathlib.Core.Bool.{Bool, true, false}
use mathlib.Core.List.{List, []}
use native.Mathlib.Omega.{arith}
use lib.ListN.{length, drop}
use Rattle.slices.specs.Pick.{pick}
use Rattle.wlan.specs.declared.AsyncEvent.{AsyncEvent}
use Rattle.wlan.specs.declared.BusOp.{BusOp}
use Rattle.wlan.specs.declared.DriverError.{DriverError}
use Rattle.wlan.specs.declared.ScanList.{ScanList}
use Rattle.wlan.specs.declared.State.{State}
use Rattle.definition.specs.Bus.{Bytes, Ans, nowhere}
use Rattle.definition.specs.Prog.{World, world, stop}
use Rattle.definition.specs.Run.{End}
use Rattle.send.specs.Meaning.{laid_header}
use Rattle.device.specs.declared.Arrival.{Arrival}
use Rattle.device.specs.Poll.{poll_op, poll_answer}
use Rattle.device.specs.Meaning.{told, landing, InRange, arrival_at}
use Rattle.control.specs.declared.Before.{Before}
use Rattle.control.specs.declared.CallNext.{CallNext}
use Rattle.control.specs.declared.CallPoint.{CallPoint}
use Rattle.control.specs.declared.CallStep.{CallStep}
use Rattle.control.specs.declared.Ending.{Ending}
use Rattle.control.specs.Begin.{call_answer}
use Rattle.control.specs.Poll.{poll_point, poll_tick, next_step}
use Rattle.control.specs.Steps.{call_op, lay_before, refuses}
use Rattle.control.specs.Meaning.{lens_of, call_tree, call_shown, Kc, secret_at, laid_all, laid_before, laid_request, list_at, success_of}
use Rattle.control.proofs.Bridge.{call-is}
use Rattle.handling.specs.Handle.{list_heard}
use Rattle.session_bytes.specs.declared.session.Session.{Session}
use Rattle.session_bytes.specs.Session.{is_session, session_in, with_state}
use Rattle.places.specs.Places.{Holds}
use Rattle.device.specs.declared.PollPoint.{PollPoint}
use Rattle.poll_points.specs.PollPoints.{point_of, point_by}
use Rattle.poll_points.specs.declared.PollAt.{PollAt}
use Rattle.going.specs.Onward.{go}
use Rattle.going.proofs.Going.{go-unroll}
use Rattle.undo.specs.Undo.{Kept, back_session}
use Rattle.poll_now.specs.declared.PollNow.{PollNow}
use Rattle.poll_report.specs.PollReport.{Gives, Quiet, Reports}
use Rattle.poll_now.specs.PollNow.{NextIs, Quiets}
use Rattle.polls.specs.Polls.{Stepped, first_point, listed}
use Rattle.polls.proofs.Laws.{front_kept}
use Rattle.run_end.specs.RunEnd as ending
use Rattle.turning.specs.Turning as turning
use Rattle.turning.proofs.Laws as law
use Rattle.run_end.specs.declared.EndKind.{EndKind}
use Rattle.run_end.specs.declared.PollReport.{PollReport}
use Rattle.run_end.specs.declared.RunEnd.{RunEnd}
use Rattle.poll_call.specs.declared.PollTurned.{PollTurned}
use Rattle.poll_call.specs.PollCall as to
use Rattle.std.specs.Prelude.{Ok, Err}
use Rattle.wlan.specs.Results.{fault_at}

-- ---- its end

abbrev pub reports : PollReport → ℕ → RunEnd
reports v len = ending.numbers EndKind.Polled v.value v.failure len

pub gives-ends : (e : World) (n : CallNext) (v : PollReport) (ws log b : List ℕ) (buf : Bytes) (len : ℕ) → Gives n v → turning.Ends e (go e ws log len (call_tree to.no_args n (turning.world_in b buf))) (reports v len) log b buf
unfolding Gives call_tree success_of
gives-ends e (CallNext.Ask p) v ws log b buf len h = absurd h
gives-ends e (CallNext.Ended Ending.Done) v ws log b buf len h = absurd h
gives-ends e (CallNext.Ended Ending.Mac) v ws log b buf len h = absurd h
gives-ends e (CallNext.Ended Ending.Word) v ws log b buf len h = absurd h
gives-ends e (CallNext.Ended (Ending.Polled p)) v ws log b buf len h = rw (← h) (law.returned e _ ws log b buf len refl tt)
gives-ends e (CallNext.Refused x) v ws log b buf len h = absurd h

-- ---- the bridge, of a step that lays nothing

shown-plain : (s : CallStep) (x : AsyncEvent) (st : State) (b : Bytes) (l : ScanList) → s.lay ≡ lay_before Before.None
    → call_tree to.no_args s.next (world s.st b (list_at s.heard s.clear x l)) ≡ call_shown to.no_args s x (world st b l)
unfolding laid_all laid_before laid_request laid_header
shown-plain s x st b l h = rw h refl

abbrev came : CallPoint → Bytes → State → Arrival
came p b st = arrival_at (call_op p) b st.sdpcm

step-tree : (p : CallPoint) (y : Ans) (st : State) (b₀ b : Bytes) (l : ScanList) (s : CallStep) → InRange (call_op p) y → b ≡ landing (call_op p) y b₀
    → s ≡ call_answer (to.no_args).job (lens_of to.no_args) st p (told y) (came p b st) → s.lay ≡ lay_before Before.None → (e : World) (ws log : List ℕ) (len : ℕ)
    → go e ws log len (call_tree to.no_args s.next (world s.st b (list_at s.heard s.clear (came p b st).event l))) ≡ go e ws log len (Kc to.no_args p y (world st b₀ l))
step-tree p y st b₀ b l s i hb hs hl e ws log len =
    ap (λ t. go e ws log len t) (shown-plain s (came p b st).event st b l hl ∙ rw (hs, hb) (sym (call-is to.no_args (omega arith) p y (world st b₀ l) i)))
    ∙ go-unroll e ws log len (Kc to.no_args p y (world st b₀ l))

module _ (p : PollAt) (y : Ans) (b₀ buf : Bytes) (i : InRange (poll_op (point_of p)) y) (hb : buf ≡ landing (poll_op (point_of p)) y b₀) (e : World) (ws log : List ℕ) (len : ℕ) where
  abbrev q : CallPoint
  q = CallPoint.Poll (point_of p)

  abbrev arrived : State → Arrival
  arrived st = arrival_at (poll_op (point_of p)) buf st.sdpcm

  -- b and d: the session's bytes before and after the step
  pub poll-steps : (b : List ℕ) {u w d : List ℕ} (v : ℕ) {r : PollNow} → Ok v ≡ told y
      → Stepped u w b d r (arrived (session_in b).st).event (poll_point (session_in b).st (point_of p) (Ok v) (arrived (session_in b).st))
      → go e ws log len (call_tree to.no_args (poll_point (session_in b).st (point_of p) (Ok v) (arrived (session_in b).st)).next (turning.world_in d buf)) ≡ go e ws log len (Kc to.no_args q y (turning.world_in b b₀))
  unfolding call_op call_answer
  poll-steps b v hv k =
      rw k.held.back (step-tree q y (session_in b).st b₀ buf (session_in b).list (poll_point (session_in b).st (point_of p) (Ok v) (arrived (session_in b).st)) i hb (rw hv refl) k.lay e ws log len)

  -- 7
  pub poll-faults : (b : List ℕ) (v : ℕ) → Err (fault_at v) ≡ told y → go e ws log len (stop (DriverError.Fault v) (turning.world_in b buf)) ≡ go e ws log len (Kc to.no_args q y (turning.world_in b b₀))
  unfolding call_op call_answer call_tree poll_point poll_answer next_step list_at list_heard
  poll-faults b v hv =
      step-tree q y (session_in b).st b₀ buf (session_in b).list (refuses (session_in b).st false Before.None (DriverError.Fault v)) i hb (rw (← hv) refl) refl e ws log len

module _ (y : Ans) (buf : Bytes) (e : World) (ws log : List ℕ) (len : ℕ) where
  abbrev at_first : Bool → CallPoint
  at_first m = CallPoint.Poll (first_point m)

  abbrev quiet : Bool → State → Arrival
  quiet m st = arrival_at (poll_op (first_point m)) buf st.sdpcm

  abbrev first_step : Bool → List ℕ → ℕ → CallStep
  first_step m b v = poll_point (session_in b).st (first_point m) (Ok v) (quiet m (session_in b).st)

  -- it lands nothing
  first-lands : (m : Bool) → buf ≡ landing (poll_op (first_point m)) y buf
  unfolding first_point poll_op landing
  first-lands true = refl
  first-lands false = refl

  pub first-steps : (m : Bool) (r : PollNow) (b : List ℕ) {d : List ℕ} (v : ℕ) → InRange (poll_op (first_point m)) y → Ok v ≡ told y → Quiets b d r (first_step m b v)
      → go e ws log len (call_tree to.no_args (first_step m b v).next (turning.world_in d buf)) ≡ go e ws log len (Kc to.no_args (at_first m) y (turning.world_in b buf))
  unfolding call_op call_answer list_at list_heard
  first-steps m r b v i hv k =
      rw k.held.back (
      rw (k.heard, k.clear) at (step-tree (at_first m) y (session_in b).st buf buf (session_in b).list (first_step m b v) i (first-lands m) (rw hv refl) k.lay e ws log len)
      )

  pub first-faults : (m : Bool) (b : List ℕ) (v : ℕ) → InRange (poll_op (first_point m)) y → Err (fault_at v) ≡ told y → go e ws log len (stop (DriverError.Fault v) (turning.world_in b buf)) ≡ go e ws log len (Kc to.no_args (at_first m) y (turning.world_in b buf))
  unfolding call_op call_answer call_tree poll_point poll_answer next_step list_at list_heard
  first-faults m b v i hv =
      step-tree (at_first m) y (session_in b).st buf buf (session_in b).list (refuses (session_in b).st false Before.None (DriverError.Fault v)) i (first-lands m) (rw (← hv) refl) refl e ws log len

module _ (started : ℕ) (y : Ans) (buf : Bytes) (e : World) (ws log : List ℕ) (len : ℕ) where
  abbrev at_tick : CallPoint
  at_tick = CallPoint.PollTick started

  tick-steps : (b : List ℕ) {d : List ℕ} (t : ℕ) (v : PollReport) → Ok t ≡ told y → Reports b d v (poll_tick (session_in b).st started (Ok t))
      → go e ws log len (call_tree to.no_args (poll_tick (session_in b).st started (Ok t)).next (turning.world_in d buf)) ≡ go e ws log len (Kc to.no_args at_tick y (turning.world_in b buf))
  unfolding call_op call_answer InRange landing list_at list_heard
  tick-steps b t v ht k =
      rw k.held.back (
      rw (k.heard, k.clear) at (step-tree at_tick y (session_in b).st buf buf (session_in b).list (poll_tick (session_in b).st started (Ok t)) tt refl (rw ht refl) k.lay e ws log len)
      )

  pub tick-ends : (b : List ℕ) {d : List ℕ} (t : ℕ) (v : PollReport) → Ok t ≡ told y → Reports b d v (poll_tick (session_in b).st started (Ok t))
      → turning.Ends e (go e ws log len (Kc to.no_args at_tick y (turning.world_in b buf))) (reports v len) log d buf
  tick-ends b {d} t v ht k = rw (← tick-steps b t v ht k) (gives-ends e _ v ws log d buf len k.next)

  pub tick-faults : (b : List ℕ) (v : ℕ) → InRange BusOp.ReadTick y → Err (fault_at v) ≡ told y → go e ws log len (stop (DriverError.Fault v) (turning.world_in b buf)) ≡ go e ws log len (Kc to.no_args at_tick y (turning.world_in b buf))
  unfolding call_op call_answer call_tree poll_tick landing list_at list_heard
  tick-faults b v i hv =
      step-tree at_tick y (session_in b).st buf buf (session_in b).list (refuses (session_in b).st false Before.None (DriverError.Fault v)) i refl (rw (← hv) refl) refl e ws log len

-- ---- a turn

pub over-turns : (e : World) (x : End) (rec log b : List ℕ) (buf : Bytes) (r : PollTurned) {end : RunEnd} → r.on ≡ false → r.end ≡ end → turning.Ends e x end log b buf → to.Turns e x rec r log b buf
over-turns e x rec log b buf r h k s = rw (h, k) s

pub on-turns : (e : World) (rec log b : List ℕ) (buf : Bytes) (r : PollTurned) (p : PollAt) (pos len : ℕ) → r.on ≡ true → r.at ≡ p → r.pos ≡ pos → r.end.len ≡ len
    → to.Turns e (go e (drop pos rec) log len (call_tree to.no_args (to.asks_at p) (turning.world_in b buf))) rec r log b buf
on-turns e rec log b buf r p pos len h a i l = rw (h, a, i, l) refl

pub front_of : {b d : List ℕ} {s : CallStep} {N : CallNext → Type 0} → is_session b ≡ true → Quiet N b d false s → to.Front b d
front_of {b} {d} {s} h q = record { known = q.held.known; back = λ u k. front_kept u b s.st k h q.held }

pub front_same : {b : List ℕ} → is_session b ≡ true → to.Front b b
front_same h = record { known = h; back = λ u k. refl }

pub front-then : {b c d : List ℕ} → to.Front b c → to.Front c d → to.Front b d
front-then f g = record { known = g.known; back = λ u k. g.back u k ∙ f.back u k }

-- ---- the loop

-- what the loop began with comes to what it stands at now
pub record Running (rec s₀ u₀ log₀ : List ℕ) (b₀ : Bytes) (t₀ : PollTurned) (s u log : List ℕ) (b : Bytes) (t : PollTurned) : Type 0 where
  pub log-len : length log ≡ length log₀
  pub buf-len : length b ≡ 2048
  pub session-len : length s ≡ length s₀
  pub undo-len : length u ≡ length u₀
  pub held : is_session s ≡ true
  pub kept : turning.KeptAll u₀ u s₀ s b₀ b
  pub room : t.on ≡ true → t.end.len ≤ length log₀
  pub turns : (e : World) (x : End) → to.Turns e x rec t₀ log₀ s₀ b₀ → to.Turns e x rec t log s b

-- each turn takes a word of the log or more
abbrev pub left : List ℕ → PollTurned → ℕ
left log t = pick t.on (1 + (length log - t.end.len)) 0

pub left_less : (log : List ℕ) (r t : PollTurned) → t.on ≡ true → t.end.len ≤ length log → (r.on ≡ true → (t.end.len < r.end.len) × (r.end.len ≤ length log)) → left log r < left log t
left_less log r t h l g = rw h (by r.on refl)
  where
    by : (o : Bool) → r.on ≡ o → pick o (1 + (length log - r.end.len)) 0 < 1 + (length log - t.end.len)
    by true k = omega (arith, (g k).0, (g k).1)
    by false k = omega arith
