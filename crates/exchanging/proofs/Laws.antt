-- What a step of a call's exchanges leaves: where it changes the state alone, after something was laid, after a change of the state, and
-- after a step of `do_ioctl`.
use Prim.Native.Nat.{ℕ}
use mathlib.Core.Path.{◌≡◌, refl, ap, ◌∙◌}
use mathlib.Core.Bool.{Bool, true}
use mathlib.Core.List.{List, [], ◌∷◌}
use types.Run.{OneOf, miss}
use denote.Enum.Declared.{tag_of}
use Rattle.wlan.specs.declared.ScanMarks.{ScanMarks}
use Rattle.wlan.specs.declared.State.{State}
use Rattle.wlan.specs.State.{with_scan}
use Rattle.definition.specs.Bus.{Bytes}
use Rattle.definition.specs.Scan.{cleared}
use Rattle.send.specs.Meaning.{laid_header}
use Rattle.ioctl.specs.declared.IoctlStep.{IoctlStep}
use Rattle.control.specs.declared.Before.{Before}
use Rattle.control.specs.declared.CallNext.{CallNext}
use Rattle.control.specs.declared.CallStep.{CallStep}
use Rattle.control.specs.declared.Job.{Job}
use Rattle.control.specs.declared.Lay.{Lay}
use Rattle.control.specs.declared.Lens.{Lens}
use Rattle.control.specs.declared.RequestPut.{RequestPut}
use Rattle.control.specs.declared.Stage.{Stage}
use Rattle.control.specs.Steps.{lays, lay_before, step}
use Rattle.control.specs.Exchange as to
use Rattle.control.specs.Meaning.{Args, laid_before, laid_request, laid_all}
use Rattle.session_bytes.specs.declared.session.Session.{Session}
use Rattle.session_bytes.specs.Session.{is_session, session_in, with_state}
use Rattle.session_bytes.proofs.Laws.{session-length}
use Rattle.places.specs.Places.{Holds}
use Rattle.hearing.specs.Hearing.{with_list}
use Rattle.hearing.proofs.Laws.{records-kept, cleared-kept}
use Rattle.undo.specs.Undo.{Kept, back_session}
use Rattle.undo.proofs.Laws.{front-changed}
use Rattle.laying.specs.Laying.{LaidKept}
use Rattle.reply_points.specs.declared.IoctlNow.{IoctlNow}
use Rattle.reply_points.specs.ReplyPoints as reply
use Rattle.replying.specs.Replying.{Starts}
use Rattle.plans.specs.declared.Plan.{Plan}
use Rattle.plans.specs.declared.PlanKind.{PlanKind}
use Rattle.plans.specs.Plans.{plan_by}
use Rattle.plans.specs.contracts.PlanKind.{the_type}
use Rattle.exchanging.specs.declared.now.CallNow.{CallNow}
use Rattle.exchanging.specs.Exchanging.{next_by, next_of, kind_of, Sets, Clears, left_by, Acts}
use Rattle.std.specs.Prelude.{Option, None}
use Rattle.send.specs.declared.Header.{Header}

-- the state alone changed, so what is kept gives the same
front_kept : (u b : List ℕ) {d : List ℕ} (t : State) → Kept u → is_session b ≡ true → Holds d (with_state b t) → back_session u d ≡ back_session u b
front_kept u b {d} t k h s = front-changed d b k (session-length d s.known) (session-length b h) (records-kept b h t s)

-- ---- a step that changes the state alone

pub set : {b d : List ℕ} {t : State} {r : CallNow} {h : Bool} {lay : Lay} {n : CallNext} {s : CallStep} → Holds d (with_state b t) → next_of r ≡ n → s ≡ step t h lay n → Sets b d r h lay s
set k n e = rw e (record { next = n; held = k; heard = refl; clear = refl; lay = refl })

pub still : {b : List ℕ} {r : CallNow} {h : Bool} {lay : Lay} {n : CallNext} {s : CallStep} → is_session b ≡ true → next_of r ≡ n → s ≡ step (session_in b).st h lay n → Sets b b r h lay s
still k n e = set (record { known = k; back = refl }) n e

-- a wait, the clock, the tick, the job's ending, a refusal
abbrev keys-still : List ℕ
keys-still = 1 ∷ 2 ∷ 3 ∷ 9 ∷ 10 ∷ []

pub plan-still : {b : List ℕ} {r : CallNow} (f : Plan) (j : Job) (l : Lens) (h : Bool) (before : Before) (k : PlanKind) → OneOf keys-still (tag_of the_type k) → is_session b ≡ true
    → r.kind ≡ kind_of k → r.pause ≡ f.pause → r.ns ≡ f.ns → r.ending ≡ j.ending → r.error ≡ f.error
    → Sets b b r h (lay_before before) (plan_by k f j l (session_in b).st h before)
unfolding plan_by kind_of next_by
plan-still f j l h before PlanKind.Begin o hb k p n g e = absurd (miss keys-still 0 tt o)
plan-still f j l h before PlanKind.Pause o hb k p n g e = still hb (rw (k, p, n)) refl
plan-still f j l h before PlanKind.Clock o hb k p n g e = still hb (rw k) refl
plan-still f j l h before PlanKind.Tick o hb k p n g e = still hb (rw k) refl
plan-still f j l h before PlanKind.LayKey o hb k p n g e = absurd (miss keys-still 4 tt o)
plan-still f j l h before PlanKind.LongSsid o hb k p n g e = absurd (miss keys-still 5 tt o)
plan-still f j l h before PlanKind.Scan o hb k p n g e = absurd (miss keys-still 6 tt o)
plan-still f j l h before PlanKind.Disconnect o hb k p n g e = absurd (miss keys-still 7 tt o)
plan-still f j l h before PlanKind.Done o hb k p n g e = absurd (miss keys-still 8 tt o)
plan-still f j l h before PlanKind.Give o hb k p n g e = still hb (rw (k, g)) refl
plan-still f j l h before PlanKind.Refuse o hb k p n g e = still hb (rw (k, e)) refl
plan-still f j l h before PlanKind.RefuseDown o hb k p n g e = absurd (miss keys-still 11 tt o)

pub set-moved : {b m d : List ℕ} {t : State} {r : CallNow} {h : Bool} {lay : Lay} (f : State → CallStep) → Holds m (with_state b t) → Sets m d r h lay (f (session_in m).st) → Sets b d r h lay (f t)
set-moved {b} {m} {d} {t} {r} {h} {lay} f k q =
    let e : (session_in m).st ≡ t = ap (λ (s : Session). s.st) k.back in
    let g : Sets m d r h lay (f t) = rw e at q in
    record { next = g.next; held = record { known = g.held.known; back = rw k.back at g.held.back }; heard = g.heard; clear = g.clear; lay = g.lay }

left-set : {b d : List ℕ} {r : CallNow} {h : Bool} {lay : Lay} {s : CallStep} → Sets b d r h lay s → Holds d (left_by b s)
left-set q = rw q.clear q.held

pub set-act : {a : Args} {u b d : List ℕ} {c₀ c : Bytes} {r : CallNow} {h : Bool} {s : CallStep} (before : Before) → Kept u → is_session b ≡ true → c ≡ laid_before before c₀ → Sets b d r h (lay_before before) s → Acts a u u b d c₀ c c r h s
unfolding laid_all laid_request laid_header
set-act {a} {u} {b} {d} {c₀} {c} {r} {h} {s} before k hb e q =
    record {
      next = q.next;
      laid = rw q.lay e;
      held = left-set q;
      heard = q.heard;
      kept = k;
      session = front_kept u b s.st k hb q.held;
      buf = refl;
    }

-- ---- scan's end

pub scan-cleared : {b m d : List ℕ} {r : CallNow} {h : Bool} {n : CallNext} (x : ScanMarks) (lay : Lay) → is_session b ≡ true → Holds m (with_state b (with_scan (session_in b).st x))
    → Holds d (with_list m (cleared (session_in m).list)) → next_of r ≡ n
    → Clears b d r h lay (record { st = with_scan (session_in b).st x; heard = h; clear = true; lay = lay; next = n })
scan-cleared {b} {m} {d} x lay hb hm hd n =
    record {
      next = n;
      held = rw hm.back at hd;
      heard = refl;
      lay = refl;
      session = λ {u} k. front-changed d m k (session-length d hd.known) (session-length m hm.known) (cleared-kept m hm.known hd) ∙ front_kept u b (with_scan (session_in b).st x) k hb hm;
    }

pub clear-act : {a : Args} {u b d : List ℕ} {c₀ c : Bytes} {r : CallNow} {h : Bool} {s : CallStep} (before : Before) → Kept u → c ≡ laid_before before c₀ → Clears b d r h (lay_before before) s → Acts a u u b d c₀ c c r h s
unfolding laid_all laid_request laid_header
clear-act before k e q = record { next = q.next; laid = rw q.lay e; held = q.held; heard = q.heard; kept = k; session = q.session k; buf = refl }

-- ---- a step after something was laid, and after a change of the state

pub laid-first : {a : Args} {u v w b d : List ℕ} {c₀ c m f : Bytes} {r : CallNow} {h : Bool} {s : CallStep} → LaidKept u v c m → Acts a v w b d c₀ m f r h s → Acts a u w b d c₀ c f r h s
laid-first {a} {u} {v} {w} {b} k q =
    record {
      next = q.next;
      laid = q.laid;
      held = q.held;
      heard = q.heard;
      kept = q.kept;
      session = q.session ∙ k.session b;
      buf = q.buf ∙ k.buf;
    }

pub moved : {a : Args} {u v b m d : List ℕ} {c₀ c f : Bytes} {t : State} {r : CallNow} {h : Bool} (g : State → CallStep) → Kept u → is_session b ≡ true → Holds m (with_state b t)
    → Acts a u v m d c₀ c f r h (g (session_in m).st) → Acts a u v b d c₀ c f r h (g t)
moved {a} {u} {v} {b} {m} {d} {c₀} {c} {f} {t} {r} {h} g k hb hm q =
    let es : (session_in m).st ≡ t = ap (λ (s : Session). s.st) hm.back in
    let el : (session_in m).list ≡ (session_in b).list = ap (λ (s : Session). s.list) hm.back in
    let p : Acts a u v m d c₀ c f r h (g t) = rw es at q in
    record {
      next = p.next;
      laid = p.laid;
      held = rw el at p.held;
      heard = p.heard;
      kept = p.kept;
      session = p.session ∙ front_kept u b t k hb hm;
      buf = p.buf;
    }

-- the key's payload is laid before a wait
pub key-act : {a : Args} {u v b : List ℕ} {c₀ c m : Bytes} {r : CallNow} {h : Bool} {n : CallNext} (before : Before) (put : RequestPut) → is_session b ≡ true → next_of r ≡ n → c ≡ laid_before before c₀ → m ≡ laid_request a put c → LaidKept u v c m
    → Acts a u v b b c₀ c m r h (step (session_in b).st h (lays before put None) n)
unfolding laid_all laid_header
key-act {a} {u} {v} {b} {c₀} {c} before put hb n e l k =
    record {
      next = n;
      laid = l ∙ ap (λ (x : Bytes). laid_request a put x) e;
      held = record { known = hb; back = refl };
      heard = refl;
      kept = k.kept;
      session = k.session b;
      buf = k.buf;
    }

-- ---- after the first step of `do_ioctl`

pub begun : {a : Args} {u v b m d : List ℕ} {c₀ c f : Bytes} {n : IoctlNow} {r : CallNow} (x : IoctlStep) (g : Stage) (h : Bool) (before : Before) (put : RequestPut)
    → c ≡ laid_request a put (laid_before before c₀) → Starts u v b m c f n x
    → ((y : Option Header) → Sets m d r h (lays before put (reply.header_in (reply.next_of n y))) (to.begun_by (reply.next_of n y) (session_in m).st g h before put))
    → Acts a u v b d c₀ c f r h (to.begun x g h before put)
unfolding laid_all
begun {a} {u} {v} {b} {m} {d} {c₀} {c} {f} {n} {r} x g h before put e k q =
    let es : (session_in m).st ≡ x.st = ap (λ (s : Session). s.st) k.held.back in
    let el : (session_in m).list ≡ (session_in b).list = ap (λ (s : Session). s.list) k.held.back in
    let p : Sets m d r h (lays before put (reply.header_in x.next)) (to.begun x g h before put) = rw (k.next, es) at (q (reply.header_in x.next)) in
    record {
      next = p.next;
      laid = rw p.lay (k.laid ∙ ap (λ (z : Bytes). laid_header (reply.header_in x.next) z) e);
      held = rw el at (left-set p);
      heard = p.heard;
      kept = k.kept;
      session = front_kept v m (to.begun x g h before put).st k.kept k.held.known p.held ∙ k.session;
      buf = k.buf;
    }
