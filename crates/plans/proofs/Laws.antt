-- After an exchange.
use Prim.Native.Nat.{ℕ}
use mathlib.Core.Path.{◌≡◌, refl, sym}
use mathlib.Core.Bool.{Bool, true, false, true≢false}
use mathlib.Core.List.{List}
use Rattle.slices.specs.Pick.{pick}
use Rattle.wlan.specs.declared.State.{State}
use Rattle.definition.specs.Bus.{Bytes}
use Rattle.definition.specs.Join.{is_dev_error}
use Rattle.control.specs.declared.CallStep.{CallStep}
use Rattle.control.specs.declared.Job.{Job}
use Rattle.control.specs.declared.Lens.{Lens}
use Rattle.control.specs.declared.Stage.{Stage}
use Rattle.control.specs.Stages.{is_tried}
use Rattle.control.specs.Exchange as to
use Rattle.undo.specs.Undo.{Kept}
use Rattle.laying.specs.Laying.{LaidKept}
use Rattle.reply_points.specs.declared.IoctlNow.{IoctlNow}
use Rattle.reply_points.specs.declared.IoctlNowKind.{IoctlNowKind}
use Rattle.reply_points.specs.ReplyPoints as reply
use Rattle.plans.specs.Plans.{is_ask, goes_on, is_ignored, stop_step, before_in}
use Rattle.std.specs.Prelude.{Option}
use Rattle.send.specs.declared.Header.{Header}

by_next : (j : Job) (l : Lens) (g : Stage) (s : State) (h : Bool) (x : Option Header) (n : IoctlNow) (k : IoctlNowKind) → is_ask k ≡ false
    → (goes_on k g n.error ≡ true → to.exchange_next j l g s h (reply.next_by k n x) ≡ to.after_step j l g s h (before_in (reply.next_by k n x)))
    × (goes_on k g n.error ≡ false → to.exchange_next j l g s h (reply.next_by k n x) ≡ stop_step g n.error s h (before_in (reply.next_by k n x)))
unfolding goes_on is_ignored stop_step before_in reply.next_by to.exchange_next to.failed_step
by_next j l g s h x n IoctlNowKind.Ask i = absurd (true≢false i)
by_next j l g s h x n IoctlNowKind.Done i = (λ o. refl, λ o. absurd (true≢false o))
by_next j l g s h x n IoctlNowKind.Refused i = by (is_dev_error n.error) (is_tried g) _ _ _
  where
    by : (d t : Bool) (p q r : CallStep) → (pick d t false ≡ true → pick d (pick t p q) r ≡ p) × (pick d t false ≡ false → pick d (pick t p q) r ≡ pick d q r)
    by true true p q r = (λ o. refl, λ o. absurd (true≢false o))
    by true false p q r = (λ o. absurd (true≢false (sym o)), λ o. refl)
    by false t p q r = (λ o. absurd (true≢false (sym o)), λ o. refl)

pub next-on : (j : Job) (l : Lens) (g : Stage) (s : State) (h : Bool) (x : Option Header) (n : IoctlNow) → is_ask n.kind ≡ false → goes_on n.kind g n.error ≡ true
    → to.exchange_next j l g s h (reply.next_of n x) ≡ to.after_step j l g s h (before_in (reply.next_of n x))
next-on j l g s h x n i o = (by_next j l g s h x n n.kind i).0 o

pub next-off : (j : Job) (l : Lens) (g : Stage) (s : State) (h : Bool) (x : Option Header) (n : IoctlNow) → is_ask n.kind ≡ false → goes_on n.kind g n.error ≡ false
    → to.exchange_next j l g s h (reply.next_of n x) ≡ stop_step g n.error s h (before_in (reply.next_of n x))
next-off j l g s h x n i o = (by_next j l g s h x n n.kind i).1 o

pub same_kept : {u : List ℕ} {c : Bytes} → Kept u → LaidKept u u c c
same_kept k = record { kept = k; session = λ s. refl; buf = refl }
