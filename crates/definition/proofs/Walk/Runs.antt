-- A run keeps a course; its notes and its ops are those of its events.
use mathlib.Core.Path.{◌≡◌, refl, sym, ap, ◌∙◌}
use mathlib.Core.Bool.{Bool, true, false}
use mathlib.Core.List.{List, [], ◌∷◌, ◌++◌}
use Prim.Native.Nat.{ℕ, ◌-◌}
use lib.Dec.{leb, eqb}
use lib.ListN.{length}
use Rattle.slices.specs.Pick.{pick}
use Rattle.wlan.specs.declared.DriverError.{DriverError}
use Rattle.wlan.specs.declared.Refusal.{Refusal}
use Rattle.definition.specs.Bus.{Op, Answer, answers, Ans, Taken, got, wrong, taken_by}
use Rattle.definition.specs.Prog.{World, Note, Loop, Prog, ret, stop, ask, say, loop, note}
use Rattle.definition.specs.Poll.{Result, first}
use Rattle.definition.specs.Calls.{Call, call}
use Rattle.definition.specs.Run.{Rest, ended, refused, paused, full, Settled, at, logged, words, turning, settle, Run, rolled_back, afterwards, answered, unanswered, resumed, run, run_of}
use Rattle.definition.proofs.Bytewise.{Bytewise}
use Rattle.definition.proofs.Walk.Events.{Event, settling, taking, resuming, events, events_of, note_of, operation_of, all, along, Each}
use Rattle.definition.proofs.Walk.Course.{Course, Steady, CallEnds, Plain}
use Rattle.definition.proofs.Walk.Keeps.{BytesIn, Gives, Keeps, k-ret, k-stop, k-ask, k-say, k-loop, k-note, k-bind, k-attempt, k-turned}
use Rattle.definition.proofs.Walk.Answers.{AllBytewise, answers-bytewise, BytesTaken, taken-bytewise}
use Rattle.definition.proofs.Walk.Calls.{first_plain, body-keeps, call-keeps}

along-append : {A : Type 0} (f : Event → A → A) (a b : List Event) (g : A) → along f (a ++ b) g ≡ along f b (along f a g)
along-append f [] b g = refl
along-append f (n ∷ a) b g = along-append f a b (f n g)

each_append : {A : Type 0} (f : Event → A → A) (P : A → Type 0) (a b : List Event) (g : A) → Each f P g a → Each f P (along f a g) b → Each f P g (a ++ b)
each_append f P [] b g h k = k
each_append f P (n ∷ a) b g h k = (h.0, each_append f P a b (f n g) h.1 k)

pub each-end : {A : Type 0} (f : Event → A → A) (P : A → Type 0) (es : List Event) (g : A) → Each f P g es → P (along f es g)
each-end f P [] g h = h
each-end f P (n ∷ es) g h = each-end f P es (f n g) h.1

-- ---- a course

-- what is left of a tree
data KeepsRest (C : Course) : Rest → C.Acc → Type 0 where
  r-ended : {r : Result} {w : World} {g : C.Acc} → C.Ended r.success w g → KeepsRest C (ended r w) g
  r-refused : {e : DriverError} {w : World} {g : C.Acc} → C.Holds w g → KeepsRest C (refused e w) g
  r-paused : {room : ℕ} {q : Op} {k : Ans → Prog Result} {g : C.Acc} → ((x : Ans) → BytesIn x → Keeps C (Gives C) (k x) (C.step (Event.answered x) g)) → KeepsRest C (paused room q k) g
  r-full : {g : C.Acc} → KeepsRest C full g

record Settles (C : Course) (s : Settled) (es : List Event) (g : C.Acc) : Type 0 where
  within : Each C.step C.Always g es
  on : KeepsRest C s.rest (along C.step es g)

-- g₀: at entry, g: now
pub record Kept (C : Course) (g₀ g : C.Acc) (r : Run) (es : List Event) : Type 0 where
  pub law : CallEnds C g₀ r.outcome r.world (along C.step es g)
  pub within : Each C.step C.Always g es

module _ (C : Course) (steady : Steady C) where
  fitting-keeps : (b : Bool) (q : Op) (s : Settled) (es : List Event) (g : C.Acc) → C.Always g → Settles C s es (C.step (Event.logged q) g)
      → Settles C (pick b (logged q s) (at full)) (pick b (Event.logged q ∷ es) []) g
  fitting-keeps true q s es g i h = record { within = (i, h.within); on = h.on }
  fitting-keeps false q s es g i h = record { within = i; on = r-full }

  plain-first : (l : Loop) (w : World) → Plain (first l w.st)
  plain-first (Loop.stall_loop t0) w = first_plain C steady w.st
  plain-first (Loop.reply_loop t0) w = tt
  plain-first Loop.poll_loop w = first_plain C steady w.st

  settle-keeps : (room : ℕ) {p : Prog Result} {g : C.Acc} → C.Always g → Keeps C (Gives C) p g → Settles C (settle room p) (settling room p) g
  unfolding settle settling
  settle-keeps room i (k-ret h) = record { within = i; on = r-ended h }
  settle-keeps room i (k-stop h) = record { within = i; on = r-refused h }
  settle-keeps room i (k-ask {q} {k} {g} c h) = fitting-keeps (leb (words q) room) q (at (paused (room - words q) q k)) [] g i (record { within = c; on = r-paused h })
  settle-keeps room i (k-say {q} {p} {g} c h) = fitting-keeps (leb (words q) room) q (settle (room - words q) p) (settling (room - words q) p) g i (settle-keeps (room - words q) c h)
  settle-keeps room i (k-loop {l} {w} {k} {g} j h) =
      fitting-keeps (leb (words (first l w.st)) room) (first l w.st) (at (paused (room - words (first l w.st)) (first l w.st) (turning l w k))) [] g i
      (record {
        within = steady.always-plain (first l w.st) g (plain-first l w) i;
        on = r-paused (λ x s. k-bind _ (k-attempt (body-keeps C steady l x w _ (steady.plain (first l w.st) x w g (plain-first l w) j))) (k-turned l k h));
      })
  settle-keeps room i (k-note {n} {p} {g} c h) =
      let s = settle-keeps room {p = p} c h in
      record { within = (i, s.within); on = s.on }

  module _ (e : World) (g₀ : C.Acc) (l : C.Holds e g₀) where
    unanswered-kept : {r : Rest} {g : C.Acc} → KeepsRest C r g → CallEnds C g₀ (unanswered e r).outcome (unanswered e r).world g
    unanswered-kept (r-ended h) = h
    unanswered-kept (r-refused h) = h
    unanswered-kept (r-paused h) = l
    unanswered-kept r-full = l

    answered-kept : (go : Prog Result → Run) (on : Prog Result → List Event) (k : Ans → Prog Result) (g : C.Acc) → C.Always g → ((p : Prog Result) (t : C.Acc) → C.Always t → Keeps C (Gives C) p t → Kept C g₀ t (go p) (on p)) → ((x : Ans) → BytesIn x → Keeps C (Gives C) (k x) (C.step (Event.answered x) g))
        → (t : Taken) → BytesTaken t → Kept C g₀ g (answered e go k t) (taking on k t)
    answered-kept go on k g i f h (got x) s =
        let r = f (k x) _ (steady.always-answered x g i) (h x s) in
        record { law = r.law; within = (i, r.within) }
    answered-kept go on k g i f h wrong s = record { law = l; within = i }

    resumed-kept : (a : Answer) → Bytewise a.bytes → (go : ℕ → Prog Result → Run) (on : ℕ → Prog Result → List Event) {r : Rest} {g : C.Acc} → C.Always g
        → ((left : ℕ) (p : Prog Result) (t : C.Acc) → C.Always t → Keeps C (Gives C) p t → Kept C g₀ t (go left p) (on left p)) → KeepsRest C r g → Kept C g₀ g (resumed e a go r) (resuming a on r)
    resumed-kept a s go on i f (r-ended h) = record { law = h; within = i }
    resumed-kept a s go on i f (r-refused h) = record { law = h; within = i }
    resumed-kept a s go on i f (r-paused {room} {q} {k} {g} h) = answered-kept (go room) (on room) k g i (f room) h (taken_by q a) (taken-bytewise q a s)
    resumed-kept a s go on i f r-full = record { law = l; within = i }

    run-kept : (more : List Answer) → AllBytewise more → (room : ℕ) (p : Prog Result) (g : C.Acc) → C.Always g → Keeps C (Gives C) p g → Kept C g₀ g (run e more room p) (events more room p)
    unfolding run events
    run-kept [] a room p g i h =
        let s = settle-keeps room i h in
        record { law = unanswered-kept s.on; within = s.within }
    run-kept (x ∷ more) a room p g i h =
        let s = settle-keeps room i h in
        let es = settling room p in
        let fs = resuming x (λ left q. events more left q) (settle room p).rest in
        let r =
        resumed-kept x a.0 (λ left q. run e more left q) (λ left q. events more left q) (each-end C.step C.Always es g s.within)
        (λ left q t j k. run-kept more a.1 left q t j k) s.on
        in
        record { law = rw (along-append C.step es fs g) r.law; within = each_append C.step C.Always es fs g s.within r.within }

  -- a call
  pub run_of-kept : (c : Call) (w : World) (recording : List ℕ) (room : ℕ) (g : C.Acc) → C.Holds w g → Kept C g g (run_of c w recording room) (events_of c w recording room)
  unfolding run_of events_of
  run_of-kept c w recording room g l = go (eqb (length w.buf) 2048)
    where
      go : (b : Bool) → Kept C g g (pick b (run w (answers recording) room (call c w)) (rolled_back Refusal.BufferLength w)) (pick b (events (answers recording) room (call c w)) [])
      go true = run-kept w g l (answers recording) (answers-bytewise recording 0) room (call c w) g (steady.always w g l) (call-keeps C steady c w g l)
      go false = record { law = l; within = steady.always w g l }

-- ---- notes and ops

all_append : {B : Type 0} (f : Event → List B) (a b : List Event) → all f (a ++ b) ≡ all f a ++ all f b
all_append f [] b = refl
all_append f (e ∷ a) b = ap (λ x. f e ++ x) (all_append f a b) ∙ sym (assoc (f e) (all f a) (all f b))
  where
    assoc : {B : Type 0} (a b c : List B) → (a ++ b) ++ c ≡ a ++ (b ++ c)
    assoc [] b c = refl
    assoc (x ∷ a) b c = ap (λ y. x ∷ y) (assoc a b c)

nothing-more : {B : Type 0} (a b : List B) → b ≡ [] → a ≡ a ++ b
nothing-more [] b h = sym h
nothing-more (x ∷ a) b h = ap (λ y. x ∷ y) (nothing-more a b h)

pub record Tells (es : List Event) (ns : List Note) (qs : List Op) : Type 0 where
  pub notes : all note_of es ≡ ns
  pub ops : all operation_of es ≡ qs

fits-tell : (b : Bool) (q : Op) (s : Settled) (es : List Event) → Tells es s.notes s.ops → Tells (pick b (Event.logged q ∷ es) []) (pick b (logged q s) (at full)).notes (pick b (logged q s) (at full)).ops
fits-tell true q s es h = record { notes = h.notes; ops = ap (λ y. q ∷ y) h.ops }
fits-tell false q s es h = record { notes = refl; ops = refl }

none-tells : Tells [] [] []
none-tells = record { notes = refl; ops = refl }

settle-tells : (room : ℕ) (p : Prog Result) → Tells (settling room p) (settle room p).notes (settle room p).ops
unfolding settle settling
settle-tells room (ret r w) = none-tells
settle-tells room (stop e w) = none-tells
settle-tells room (ask q k) = fits-tell (leb (words q) room) q (at (paused (room - words q) q k)) [] none-tells
settle-tells room (say q p) = fits-tell (leb (words q) room) q (settle (room - words q) p) _ (settle-tells (room - words q) p)
settle-tells room (loop l w k) = fits-tell (leb (words (first l w.st)) room) (first l w.st) (at (paused (room - words (first l w.st)) (first l w.st) (turning l w k))) [] none-tells
settle-tells room (note n p) = record { notes = ap (λ y. n ∷ y) (settle-tells room p).notes; ops = (settle-tells room p).ops }

abbrev pub Told : List Event → Run → Type 0
Told es r = Tells es r.notes r.ops

after-tells : (a b : List Event) (s : Settled) (r : Run) → Tells a s.notes s.ops → Told b r → Told (a ++ b) (afterwards s r)
after-tells a b s r h k =
    record { notes = all_append note_of a b ∙ both h.notes k.notes; ops = all_append operation_of a b ∙ both h.ops k.ops }
  where
    both : {B : Type 0} {a b c d : List B} → a ≡ b → c ≡ d → a ++ c ≡ b ++ d
    both {a = a} {d = d} h k = ap (λ x. a ++ x) k ∙ ap (λ x. x ++ d) h

module _ (e : World) where
  unanswered-told : (r : Rest) → Told [] (unanswered e r)
  unanswered-told (ended r w) = none-tells
  unanswered-told (refused x w) = none-tells
  unanswered-told (paused room q k) = none-tells
  unanswered-told full = none-tells

  taking-told : (go : Prog Result → Run) (on : Prog Result → List Event) (k : Ans → Prog Result) → ((p : Prog Result) → Told (on p) (go p)) → (t : Taken) → Told (taking on k t) (answered e go k t)
  taking-told go on k f (got x) = record { notes = (f (k x)).notes; ops = (f (k x)).ops }
  taking-told go on k f wrong = none-tells

  resumed-told : (a : Answer) (go : ℕ → Prog Result → Run) (on : ℕ → Prog Result → List Event) → ((left : ℕ) (p : Prog Result) → Told (on left p) (go left p)) → (r : Rest) → Told (resuming a on r) (resumed e a go r)
  resumed-told a go on f (ended r w) = none-tells
  resumed-told a go on f (refused x w) = none-tells
  resumed-told a go on f (paused room q k) = taking-told (go room) (on room) k (f room) (taken_by q a)
  resumed-told a go on f full = none-tells

  run-told : (more : List Answer) (room : ℕ) (p : Prog Result) → Told (events more room p) (run e more room p)
  unfolding run events
  run-told [] room p =
      let s = settle-tells room p in
      let u = unanswered-told (settle room p).rest in
      record { notes = s.notes ∙ nothing-more _ _ (sym u.notes); ops = s.ops ∙ nothing-more _ _ (sym u.ops) }
  run-told (a ∷ more) room p =
      after-tells (settling room p) _ (settle room p) (resumed e a (λ left q. run e more left q) (settle room p).rest) (settle-tells room p) (resumed-told a (λ left q. run e more left q) (λ left q. events more left q) (run-told more) (settle room p).rest)

-- of a call
pub run_of-told : (c : Call) (w : World) (recording : List ℕ) (room : ℕ) → Told (events_of c w recording room) (run_of c w recording room)
unfolding run_of events_of
run_of-told c w recording room = go (eqb (length w.buf) 2048)
  where
    go : (b : Bool) → Told (pick b (events (answers recording) room (call c w)) []) (pick b (run w (answers recording) room (call c w)) (rolled_back Refusal.BufferLength w))
    go true = run-told w (answers recording) room (call c w)
    go false = none-tells
